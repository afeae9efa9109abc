-- Where a table stores conn_cur, a reference that had a look of few has passed.
use Rattle.std.proofs.Common.{◌≡◌, ◌⊎◌, inl, inr, ⊎_elim, ℕ, refl, sym, ap, subst, ◌∙◌, Bool, true, false, nat_le, ◌&&◌, ◌||◌, if◌then◌else◌, List, [], ◌∷◌, ◌++◌}
use Rattle.std.specs.List.{list_any}
use Rattle.std.proofs.lemmas.Bool.{false≢true}
use Rattle.stored_data.specs.Stored.{is_column}
use Rattle.stored_data.specs.declared.datum.Datum.TheVariants.{ConnCur}
use Rattle.stick_model.specs.Key.{Key, same_key}
use Rattle.stick_model.specs.Legal.{IsLegal}
use Rattle.stick_model.specs.Passed.{passing_look, passing_looks}
use Rattle.stick_model.specs.State.{State, refs, same_ticket}
use Rattle.stick_model.specs.declared.specification.Spec.{Spec}
use Rattle.stick_model.specs.declared.events.Event.{Event}
use Rattle.stick_model.specs.declared.events.Event.TheVariants.{Get, Track, Look, Count, Release, Put, Clear, ClearWhere, List as ListRows, Expire}
use Rattle.stick_model.specs.declared.replies.Reply.{Reply}
use Rattle.stick_model.specs.declared.replies.Reply.TheVariants.{Absent, Row as ARow, NoRefs, Full, Tracked, Value, Released, NotSettable, NotStored, Written, InUse, Removed, Cleared, Rows, Expired}
use Rattle.stick_model.specs.declared.rows.Row.{Row}
use Rattle.stick_model.specs.declared.rows.Ticket.{Ticket}
use Rattle.stick_model.proofs.KeyLemmas.{same_key-refl}
use Rattle.stick_model.proofs.LegalLemmas.{step_legal}
use Rattle.stick_model.proofs.StepLemmas.{step_spec}
use Rattle.stick_model.proofs.TestLemmas.{and-left, and-right}
use Rattle.shard_record.specs.declared.view.Call.{Call}
use Rattle.shard_record.specs.Calls.{Answers, IsRecord, events_in, passed_in, replies_in}
use Rattle.shard_record.proofs.Records.{start_legal}
use Rattle.rule_eval.specs.Readings.{value_in}
use Rattle.admit_core.proofs.ShownLemmas.{reading_law}
use Rattle.shard_book.specs.Kept.{IsMadeWith}
use Rattle.tcp_relay.specs.Passed.{few_in, shows_few}
use Rattle.shard_locks.proofs.LastCalls.{shown}

-- ---- which calls are looks that show a row

abbrev IsLook : Event → Reply → Type 0
IsLook event reply = (now : ℕ) × (looked : Ticket) × (row : Row) × (event ≡ Look now looked) × (reply ≡ ARow row)

abbrev IsNone : Event → Reply → Type 0
IsNone event reply = (key : Key) (limit : ℕ) (ticket : Ticket) → few_in key limit ticket event reply ≡ false

looks : (event : Event) (reply : Reply) → IsLook event reply ⊎ IsNone event reply
looks (Look now looked) (ARow row) = inl (now, looked, row, refl, refl)
looks (Look now looked) Absent = inr (λ key limit ticket. refl)
looks (Look now looked) NoRefs = inr (λ key limit ticket. refl)
looks (Look now looked) Full = inr (λ key limit ticket. refl)
looks (Look now looked) (Tracked given row) = inr (λ key limit ticket. refl)
looks (Look now looked) (Value value) = inr (λ key limit ticket. refl)
looks (Look now looked) Released = inr (λ key limit ticket. refl)
looks (Look now looked) (NotSettable field) = inr (λ key limit ticket. refl)
looks (Look now looked) (NotStored field) = inr (λ key limit ticket. refl)
looks (Look now looked) (Written created) = inr (λ key limit ticket. refl)
looks (Look now looked) InUse = inr (λ key limit ticket. refl)
looks (Look now looked) Removed = inr (λ key limit ticket. refl)
looks (Look now looked) (Cleared removed kept) = inr (λ key limit ticket. refl)
looks (Look now looked) (Rows used rows) = inr (λ key limit ticket. refl)
looks (Look now looked) (Expired count) = inr (λ key limit ticket. refl)
looks (Get now key) reply = inr (λ key limit ticket. refl)
looks (Track now key) reply = inr (λ key limit ticket. refl)
looks (Count now given act) reply = inr (λ key limit ticket. refl)
looks (Release now given) reply = inr (λ key limit ticket. refl)
looks (Put now key pairs) reply = inr (λ key limit ticket. refl)
looks (Clear now key) reply = inr (λ key limit ticket. refl)
looks (ClearWhere now choice) reply = inr (λ key limit ticket. refl)
looks (ListRows now choice) reply = inr (λ key limit ticket. refl)
looks (Expire now) reply = inr (λ key limit ticket. refl)

-- ---- one that shows few passes

-- what a row shows of conn_cur is how many references it has
row_refs : (old : State) (now : ℕ) (ticket : Ticket) (row : Row) (new : State) → IsLegal old → is_column old.spec.columns ConnCur ≡ true → Answers old (Look now ticket) (ARow row) new → value_in row.cells ConnCur ≡ row.refs
row_refs old now ticket row new legal stores answers =
    let shows = shown old now ticket row new legal answers.step in
    reading_law old (Look now ticket) row new legal stores refl answers.step ∙ ap (λ k. refs k old.tickets) shows.of_key ∙ sym shows.refs

few_look : (old : State) (now : ℕ) (looked ticket : Ticket) (row : Row) (new : State) (key : Key) (limit : ℕ) → IsLegal old → is_column old.spec.columns ConnCur ≡ true → Answers old (Look now looked) (ARow row) new
    → few_in key limit ticket (Look now looked) (ARow row) ≡ true → list_any (same_ticket ticket) (passing_look key limit (Look now looked) (ARow row)) ≡ true
few_look old now looked ticket row new key limit legal stores answers few =
    let its : same_ticket ticket looked ≡ true = and-left (same_ticket ticket looked) (same_key key row.key && nat_le (value_in row.cells ConnCur) limit) few in
    let rest : (same_key key row.key && nat_le (value_in row.cells ConnCur) limit) ≡ true = and-right (same_ticket ticket looked) (same_key key row.key && nat_le (value_in row.cells ConnCur) limit) few in
    let shows : (same_key key row.key && nat_le row.refs limit) ≡ true = ap (λ n. same_key key row.key && nat_le n limit) (sym (row_refs old now looked row new legal stores answers)) ∙ rest in
    ap (λ b. list_any (same_ticket ticket) (if b then looked ∷ [] else [])) shows ∙ ap (λ b. b || false) its

few_passes : (old : State) (event : Event) (reply : Reply) (new : State) (key : Key) (limit : ℕ) (ticket : Ticket) → IsLegal old → is_column old.spec.columns ConnCur ≡ true → Answers old event reply new
    → few_in key limit ticket event reply ≡ true → list_any (same_ticket ticket) (passing_look key limit event reply) ≡ true
few_passes old event reply new key limit ticket legal stores answers few = ⊎_elim look other (looks event reply)
  where
    look : IsLook event reply → list_any (same_ticket ticket) (passing_look key limit event reply) ≡ true
    look is =
        let asked : Answers old (Look is.0 is.1) (ARow is.2) new = subst (λ r. Answers old (Look is.0 is.1) r new) is.4 (subst (λ e. Answers old e reply new) is.3 answers) in
        let few_then : few_in key limit ticket (Look is.0 is.1) (ARow is.2) ≡ true = (λ k. few_in key limit ticket (sym is.3 k) (sym is.4 k)) ∙ few in
        (λ k. list_any (same_ticket ticket) (passing_look key limit (is.3 k) (is.4 k))) ∙ few_look old is.0 is.1 ticket is.2 new key limit legal stores asked few_then

    other : IsNone event reply → list_any (same_ticket ticket) (passing_look key limit event reply) ≡ true
    other none = absurd (false≢true (sym (none key limit ticket) ∙ few))

-- ---- of a record

any_left : {X : Type 0} (p : X → Bool) (xs ys : List X) → list_any p xs ≡ true → list_any p (xs ++ ys) ≡ true
any_left p [] ys is = absurd (false≢true is)
any_left p (x ∷ xs) ys is = elim (p x) as (λ b. (b || list_any p xs) ≡ true → (b || list_any p (xs ++ ys)) ≡ true) [ true ↦ λ _. refl | false ↦ λ rest. any_left p xs ys rest ] is

any_right : {X : Type 0} (p : X → Bool) (xs ys : List X) → list_any p ys ≡ true → list_any p (xs ++ ys) ≡ true
any_right p [] ys is = is
any_right p (x ∷ xs) ys is = by (p x) (any_right p xs ys is)
  where
    by : (b : Bool) → list_any p (xs ++ ys) ≡ true → (b || list_any p (xs ++ ys)) ≡ true
    by true later = refl
    by false later = later

record_passes : (old : State) (log : List Call) (new : State) (key : Key) (limit : ℕ) (ticket : Ticket) → IsLegal old → is_column old.spec.columns ConnCur ≡ true → IsRecord old log new
    → list_any (shows_few key limit ticket) log ≡ true → list_any (same_ticket ticket) (passing_looks key limit (events_in log) (replies_in log)) ≡ true
record_passes old [] new key limit ticket legal stores is few = absurd (false≢true few)
record_passes old (one ∷ log) new key limit ticket legal stores is few =
    let legal_then : IsLegal is.0 = step_legal old one.event one.reply is.0 legal is.1.takes is.1.lives is.1.step in
    let stores_then : is_column is.0.spec.columns ConnCur ≡ true = ap (λ s. is_column s.columns ConnCur) (step_spec old one.event one.reply is.0 is.1.step) ∙ stores in
    either (few_in key limit ticket one.event one.reply) (list_any (shows_few key limit ticket) log) few
    (λ here. any_left (same_ticket ticket) (passing_look key limit one.event one.reply) (passing_looks key limit (events_in log) (replies_in log)) (few_passes old one.event one.reply is.0 key limit ticket legal stores is.1 here))
    (λ later. any_right (same_ticket ticket) (passing_look key limit one.event one.reply) (passing_looks key limit (events_in log) (replies_in log)) (record_passes is.0 log new key limit ticket legal_then stores_then is.2 later))
  where
    either : {Q : Type 0} (b c : Bool) → (b || c) ≡ true → (b ≡ true → Q) → (c ≡ true → Q) → Q
    either true c is first second = first refl
    either false c is first second = second is

record_spec : (old : State) (log : List Call) (new : State) → IsRecord old log new → new.spec ≡ old.spec
record_spec old [] new is = ap (λ (s : State). s.spec) is
record_spec old (one ∷ log) new is = record_spec is.0 log new is.2 ∙ step_spec old one.event one.reply is.0 is.1.step

pub passes : (spec : Spec) (log : List Call) (key : Key) (limit : ℕ) (ticket : Ticket) → list_any (shows_few key limit ticket) log ≡ true → IsMadeWith spec log → is_column spec.columns ConnCur ≡ true → passed_in key limit log (ticket, key) ≡ true
passes spec log key limit ticket few made stores =
    let history = made.history in
    let begins : is_column history.start.spec.columns ConnCur ≡ true = ap (λ (s : Spec). is_column s.columns ConnCur) (sym (record_spec history.start log made.live history.runs) ∙ made.made) ∙ stores in
    let looked : list_any (same_ticket ticket) (passing_looks key limit (events_in log) (replies_in log)) ≡ true =
    record_passes history.start log made.live key limit ticket (start_legal history.start history.begins) begins history.runs few in
    (λ k. same_key-refl key k && looked k)
