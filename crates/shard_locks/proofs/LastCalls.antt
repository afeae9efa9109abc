-- What the last call of a book's history tells of a reference that is tracked or looked at.
use Rattle.std.proofs.Common.{◌≡◌, ℕ, refl, sym, ap, subst, ◌∙◌, true, false, Bool, nat_le, ◌||◌, List, [], ◌∷◌, ◌++◌, Option, Some, None, is_some, length}
use Rattle.std.specs.List.{list_any}
use Rattle.std.proofs.lemmas.Bool.{false≢true}
use mathlib.Core.List.{IsPrefix}
use Rattle.stick_model.specs.Key.{Key}
use Rattle.stick_model.specs.Laws.{IsAnsweredFrom}
use Rattle.stick_model.specs.Legal.{IsLegal}
use Rattle.stick_model.specs.Room.{stored_in}
use Rattle.stick_model.specs.State.{State, key_of, refs}
use Rattle.stick_model.specs.Step.{Outcome, Step, begun, connected, tracked}
use Rattle.stick_model.specs.declared.events.Event.{Event}
use Rattle.stick_model.specs.declared.events.Event.TheVariants.{Look, Track}
use Rattle.stick_model.specs.declared.replies.Reply.{Reply}
use Rattle.stick_model.specs.declared.replies.Reply.TheVariants.{Row as ARow, Tracked, NoRefs, Full}
use Rattle.stick_model.specs.declared.rows.Record.{Record}
use Rattle.stick_model.specs.declared.rows.Row.{Row}
use Rattle.stick_model.specs.declared.rows.Ticket.{Ticket}
use Rattle.stick_model.proofs.ReferenceLemmas.{reference-law}
use Rattle.stick_model.proofs.StepCases.{of_mapped, of_test}
use Rattle.shard_record.specs.declared.view.Call.{Call}
use Rattle.shard_record.specs.Calls.{Answers, IsHistory, IsHistoryOf, IsRecord, call, out}
use Rattle.shard_record.proofs.OneKey.{one_key-law}
use Rattle.shard_record.proofs.Beginnings.{begins_further}
use Rattle.shard_record.proofs.Records.{history_legal, history_out}
use Rattle.shard_locks.specs.Shared.{WasOut}
use Rattle.shard_locks.proofs.KeyLemmas.{track_out}

-- ---- one call more

pub any_last : {X : Type 0} (p : X → Bool) (xs : List X) (x : X) → p x ≡ true → list_any p (xs ++ x ∷ []) ≡ true
any_last p [] x is = ap (λ b. b || false) is
any_last p (y ∷ xs) x is = by (p y) (any_last p xs x is)
  where
    by : (b : Bool) → list_any p (xs ++ x ∷ []) ≡ true → (b || list_any p (xs ++ x ∷ [])) ≡ true
    by true later = refl
    by false later = later

-- ---- the last call

-- what a history was before its last call, and how that was answered
pub record HasEnded (log : List Call) (event : Event) (reply : Reply) : Type 0 where
  pub before : State
  pub live : State
  pub history : IsHistoryOf log before
  pub answers : Answers before event reply live

split_last : (old : State) (log : List Call) (one : Call) (live : State) → IsRecord old (log ++ one ∷ []) live → (before : State) × IsRecord old log before × Answers before one.event one.reply live
split_last old [] one live is = (old, refl, subst (λ (s : State). Answers old one.event one.reply s) (sym is.2) is.1)
split_last old (first ∷ log) one live is = let rest = split_last is.0 log one live is.2 in (rest.0, (is.0, is.1, rest.1), rest.2)

pub ended : (log : List Call) (seat : ℕ) (event : Event) (reply : Reply) → IsHistory (log ++ call seat event reply ∷ []) → HasEnded log event reply
ended log seat event reply is =
    let split = split_last is.1.start log (call seat event reply) is.0 is.1.runs in
    record { before = split.0; live = is.0; history = record { start = is.1.start; begins = is.1.begins; runs = split.1 }; answers = split.2 }

-- ---- a reference is made

abbrev IsOfKey : Key → Reply → Type 0
IsOfKey key (Tracked given row) = row.key ≡ key
IsOfKey key reply = Unit {0}

-- the row of a new reference is of its key
track_key : (old : State) (now : ℕ) (key : Key) (given : Ticket) (row : Row) (new : State) → Step old (Track now key) (Tracked given row) new → row.key ≡ key
track_key old now key given row new step =
    let Q : Reply → State → Type 0 = λ r s. IsOfKey key r in
    let state : State = begun old now in
    let kept : Record = connected state key in
    subst (λ (o : Outcome). Q o.0 o.1) step.gives
    (of_test Q (nat_le state.spec.max_refs (length state.tickets)) (NoRefs, state) _ (λ _. tt)
    (λ _. of_mapped Q (λ rs. record state { records = rs }) (tracked state key kept _) (stored_in state.spec state.tickets state.records key kept) (Full, state) (λ rs is. refl) tt))

-- so the ticket that a track is told is out behind it by the key that was tracked
pub key_out : (log : List Call) (seat now : ℕ) (key : Key) (given : Ticket) (row : Row) → IsHistory (log ++ call seat (Track now key) (Tracked given row) ∷ []) → WasOut (log ++ call seat (Track now key) (Tracked given row) ∷ []) given key
unfolding ended
key_out log seat now key given row is =
    let whole : List Call = log ++ call seat (Track now key) (Tracked given row) ∷ [] in
    let end = ended log seat (Track now key) (Tracked given row) is in
    subst (WasOut whole given) (track_key end.before now key given row end.live end.answers.step) (track_out log seat now key given row is)

-- ---- a look

the_row : (a b : Row) → ARow a ≡ ARow b → a ≡ b
the_row a b e = cc

some_of : (o : Option Key) → is_some o ≡ true → (key : Key) × (o ≡ Some key)
some_of None is = absurd (false≢true is)
some_of (Some key) is = (key, refl)

-- a ticket that is looked at is out by a key, and the row that it is shown is of that, with its references
pub record HasShown (old : State) (ticket : Ticket) (row : Row) : Type 0 where
  pub key : Key
  pub out : key_of ticket old.tickets ≡ Some key
  pub of_key : row.key ≡ key
  pub refs : row.refs ≡ refs key old.tickets

pub shown : (old : State) (now : ℕ) (ticket : Ticket) (row : Row) (new : State) → IsLegal old → Step old (Look now ticket) (ARow row) new → HasShown old ticket row
shown old now ticket row new legal step =
    let out = some_of (key_of ticket old.tickets) step.out in
    let from : IsAnsweredFrom old out.0 (Look now ticket) (ARow row) = reference-law old (Look now ticket) (ARow row) new ticket out.0 legal step refl out.1 in
    let is = the_row row _ from.answered in
    record { key = out.0; out = out.1; of_key = ap (λ (r : Row). r.key) is; refs = ap (λ (r : Row). r.refs) is }

-- a ticket that was out by a key is shown rows of that key
pub look_key : (log : List Call) (seat now : ℕ) (ticket : Ticket) (key : Key) (row : Row) → IsHistory (log ++ call seat (Look now ticket) (ARow row) ∷ []) → WasOut log ticket key → row.key ≡ key
look_key log seat now ticket key row is was =
    let whole : List Call = log ++ call seat (Look now ticket) (ARow row) ∷ [] in
    let end = ended log seat (Look now ticket) (ARow row) is in
    let shows = shown end.before now ticket row end.live (history_legal log end.before end.history) end.answers.step in
    let here : key_of ticket (out log) ≡ Some shows.key = ap (key_of ticket) (sym (history_out log end.before end.history)) ∙ shows.out in
    let begins : IsPrefix log whole = (call seat (Look now ticket) (ARow row) ∷ [], refl) in
    shows.of_key ∙ one_key-law whole was.0 log ticket key shows.key is (begins_further was.0 log whole was.1 begins) begins was.2 here
