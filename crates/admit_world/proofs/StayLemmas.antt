-- What stays of a reference that is out, and of the looks that have passed, as a shard answers.
use Rattle.std.proofs.Common.{◌≡◌, ℕ, refl, sym, ap, subst, ◌∙◌, Bool, true, false, nat_le, ◌||◌, List, [], ◌∷◌, ◌++◌, length, Some, is_some}
use Rattle.std.specs.List.{list_any}
use Rattle.std.proofs.lemmas.Bool.{false≢true}
use Rattle.stick_model.specs.Key.{Key}
use Rattle.stick_model.specs.Laws.{tickets_told}
use Rattle.stick_model.specs.Passed.{passing_look, passing_looks}
use Rattle.stick_model.specs.Room.{stored_in}
use Rattle.stick_model.specs.Run.{Run}
use Rattle.stick_model.specs.State.{State, key_of}
use Rattle.stick_model.specs.Step.{Outcome, Step, begun, connected, tracked}
use Rattle.stick_model.specs.declared.events.Event.{Event}
use Rattle.stick_model.specs.declared.events.Event.TheVariants as events
use Rattle.stick_model.specs.declared.replies.Reply.{Reply}
use Rattle.stick_model.specs.declared.replies.Reply.TheVariants as replies
use Rattle.stick_model.specs.declared.rows.Record.{Record}
use Rattle.stick_model.specs.declared.rows.Row.{Row}
use Rattle.stick_model.specs.declared.rows.Ticket.{Ticket}
use Rattle.stick_model.proofs.StepCases.{of_mapped, of_test}
use Rattle.stick_model.proofs.StepLemmas.{step_tickets}
use Rattle.admit_world.proofs.PassedLemmas.{key_push, key_without}

-- ---- the key of a ticket

told_key : (event : Event) (reply : Reply) (ticket : Ticket) (key : Key) (tickets : List (Ticket × Key)) → key_of ticket tickets ≡ Some key → is_some (key_of ticket (tickets_told event reply tickets)) ≡ true
    → key_of ticket (tickets_told event reply tickets) ≡ Some key
told_key event (replies.Tracked given row) ticket key tickets is out = key_push ticket given key row.key tickets is
told_key (events.Release now given) replies.Released ticket key tickets is out = key_without ticket given tickets key is out
told_key (events.Get now k) replies.Released ticket key tickets is out = is
told_key (events.Track now k) replies.Released ticket key tickets is out = is
told_key (events.Look now t) replies.Released ticket key tickets is out = is
told_key (events.Count now t act) replies.Released ticket key tickets is out = is
told_key (events.Put now k cells) replies.Released ticket key tickets is out = is
told_key (events.Clear now k) replies.Released ticket key tickets is out = is
told_key (events.ClearWhere now choice) replies.Released ticket key tickets is out = is
told_key (events.List now choice) replies.Released ticket key tickets is out = is
told_key (events.Expire now) replies.Released ticket key tickets is out = is
told_key event replies.Absent ticket key tickets is out = is
told_key event (replies.Row row) ticket key tickets is out = is
told_key event replies.NoRefs ticket key tickets is out = is
told_key event replies.Full ticket key tickets is out = is
told_key event (replies.Value value) ticket key tickets is out = is
told_key event (replies.NotSettable datum) ticket key tickets is out = is
told_key event (replies.NotStored datum) ticket key tickets is out = is
told_key event (replies.Written created) ticket key tickets is out = is
told_key event replies.InUse ticket key tickets is out = is
told_key event replies.Removed ticket key tickets is out = is
told_key event (replies.Cleared removed kept) ticket key tickets is out = is
told_key event (replies.Rows used rows) ticket key tickets is out = is
told_key event (replies.Expired count) ticket key tickets is out = is

-- a ticket that stays out is of the same key
pub key_stays : (old : State) (event : Event) (reply : Reply) (new : State) (ticket : Ticket) (key : Key) → Step old event reply new → key_of ticket old.tickets ≡ Some key → is_some (key_of ticket new.tickets) ≡ true → key_of ticket new.tickets ≡ Some key
key_stays old event reply new ticket key step is out =
    let told = step_tickets old event reply new step in
    ap (key_of ticket) told ∙ told_key event reply ticket key old.tickets is (sym (ap (λ ts. is_some (key_of ticket ts)) told) ∙ out)

-- the row of a new reference is of its key
abbrev IsOfKey : Key → Reply → Type 0
IsOfKey key (replies.Tracked given row) = row.key ≡ key
IsOfKey key reply = Unit {0}

pub track_key : (old : State) (now : ℕ) (key : Key) (given : Ticket) (row : Row) (new : State) → Step old (events.Track now key) (replies.Tracked given row) new → row.key ≡ key
track_key old now key given row new step =
    let Q : Reply → State → Type 0 = λ r s. IsOfKey key r in
    let state : State = begun old now in
    let kept : Record = connected state key in
    subst (λ (o : Outcome). Q o.0 o.1) step.gives
    (of_test Q (nat_le state.spec.max_refs (length state.tickets)) (replies.NoRefs, state) _ (λ _. tt)
    (λ _. of_mapped Q (λ rs. record state { records = rs }) (tracked state key kept _) (stored_in state.spec state.tickets state.records key kept) (replies.Full, state) (λ rs is. refl) tt))

-- ---- looks that passed

any_left : (Q : Ticket → Bool) (xs ys : List Ticket) → list_any Q xs ≡ true → list_any Q (xs ++ ys) ≡ true
any_left Q [] ys any = absurd (false≢true any)
any_left Q (x ∷ xs) ys any = by (Q x) any (any_left Q xs ys)
  where
    by : (b : Bool) → (b || list_any Q xs) ≡ true → (list_any Q xs ≡ true → list_any Q (xs ++ ys) ≡ true) → (b || list_any Q (xs ++ ys)) ≡ true
    by true one later = refl
    by false one later = later one

any_right : (Q : Ticket → Bool) (xs ys : List Ticket) → list_any Q ys ≡ true → list_any Q (xs ++ ys) ≡ true
any_right Q [] ys any = any
any_right Q (x ∷ xs) ys any = by (Q x) (any_right Q xs ys any)
  where
    by : (b : Bool) → list_any Q (xs ++ ys) ≡ true → (b || list_any Q (xs ++ ys)) ≡ true
    by true later = refl
    by false later = later

-- those that passed have passed for ever
pub passed_more : (Q : Ticket → Bool) (key : Key) (limit : ℕ) (old : State) (made : List Event) (told : List Reply) (new : State) (event : Event) (reply : Reply) → Run old made told new
    → list_any Q (passing_looks key limit made told) ≡ true → list_any Q (passing_looks key limit (made ++ event ∷ []) (told ++ reply ∷ [])) ≡ true
passed_more Q key limit old [] told new event reply run any = absurd (false≢true any)
passed_more Q key limit old (first ∷ made) [] new event reply run any = absurd run
passed_more Q key limit old (first ∷ made) (answer ∷ told) new event reply run any =
    joined (passing_look key limit first answer) (passing_looks key limit made told) (passing_looks key limit (made ++ event ∷ []) (told ++ reply ∷ [])) any (passed_more Q key limit run.0 made told new event reply run.2)
  where
    joined : (xs ys zs : List Ticket) → list_any Q (xs ++ ys) ≡ true → (list_any Q ys ≡ true → list_any Q zs ≡ true) → list_any Q (xs ++ zs) ≡ true
    joined [] ys zs one later = later one
    joined (x ∷ xs) ys zs one later = by (Q x) one (λ more. joined xs ys zs more later)
      where
        by : (b : Bool) → (b || list_any Q (xs ++ ys)) ≡ true → (list_any Q (xs ++ ys) ≡ true → list_any Q (xs ++ zs) ≡ true) → (b || list_any Q (xs ++ zs)) ≡ true
        by true whole more = refl
        by false whole more = more whole

-- the last one passes
pub passed_last : (Q : Ticket → Bool) (key : Key) (limit : ℕ) (old : State) (made : List Event) (told : List Reply) (new : State) (event : Event) (reply : Reply) → Run old made told new
    → list_any Q (passing_look key limit event reply) ≡ true → list_any Q (passing_looks key limit (made ++ event ∷ []) (told ++ reply ∷ [])) ≡ true
passed_last Q key limit old [] [] new event reply run any = any_left Q (passing_look key limit event reply) [] any
passed_last Q key limit old [] (answer ∷ told) new event reply run any = absurd run
passed_last Q key limit old (first ∷ made) [] new event reply run any = absurd run
passed_last Q key limit old (first ∷ made) (answer ∷ told) new event reply run any =
    any_right Q (passing_look key limit first answer) (passing_looks key limit (made ++ event ∷ []) (told ++ reply ∷ [])) (passed_last Q key limit run.0 made told new event reply run.2 any)
