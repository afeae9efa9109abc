-- What the calls of a book tell of a reference that was looked at.
use Rattle.std.proofs.Common.{◌≡◌, ℕ, ◌≤◌, refl, ap, subst, ◌∙◌, arith, Bool, true, false, nat_le, ◌&&◌, ◌||◌, List, [], ◌∷◌, ◌++◌}
use Rattle.std.specs.List.{list_any}
use Rattle.std.proofs.lemmas.Bool.{false≢true}
use Rattle.std.proofs.lemmas.Bool.Decides.{nat_tests}
use mathlib.Core.List.{IsPrefix}
use Rattle.stored_data.specs.declared.datum.Datum.TheVariants.{ConnCur}
use Rattle.stick_model.specs.Key.{Key, same_key}
use Rattle.stick_model.specs.declared.events.Event.TheVariants.{Look}
use Rattle.stick_model.specs.declared.replies.Reply.TheVariants.{Row as ARow}
use Rattle.stick_model.specs.declared.rows.Row.{Row}
use Rattle.stick_model.specs.declared.rows.Ticket.{Ticket}
use Rattle.stick_model.proofs.KeyLemmas.{same_key-refl}
use Rattle.shard_record.specs.declared.view.Call.{Call}
use Rattle.shard_record.specs.Calls.{IsHistory, call}
use Rattle.shard_record.proofs.Tickets.{same_self}
use Rattle.rule_eval.specs.Readings.{value_in}
use Rattle.shard_locks.specs.Shared.{WasOut}
use Rattle.shard_locks.proofs.LastCalls.{any_last, look_key}
use Rattle.tcp_relay.specs.Passed.{shows_few}

-- ---- as calls are added

any_append : {X : Type 0} (p : X → Bool) (xs ys : List X) → list_any p xs ≡ true → list_any p (xs ++ ys) ≡ true
any_append p [] ys is = absurd (false≢true is)
any_append p (x ∷ xs) ys is = elim (p x) as (λ b. (b || list_any p xs) ≡ true → (b || list_any p (xs ++ ys)) ≡ true) [ true ↦ λ _. refl | false ↦ λ rest. any_append p xs ys rest ] is

pub any_later : {X : Type 0} (p : X → Bool) (xs later : List X) → IsPrefix xs later → list_any p xs ≡ true → list_any p later ≡ true
any_later p xs later begins is = subst (λ ys. list_any p ys ≡ true) begins.1 (any_append p xs begins.0 is)

-- ---- a look

le_to : (a b : ℕ) → a ≤ b → nat_le a b ≡ true
le_to a b less = grind (arith, nat_tests)

-- such a row of few shows few
pub look_few : (log : List Call) (seat now limit : ℕ) (ticket : Ticket) (key : Key) (row : Row) → IsHistory (log ++ call seat (Look now ticket) (ARow row) ∷ []) → WasOut log ticket key → value_in row.cells ConnCur ≤ limit
    → list_any (shows_few key limit ticket) (log ++ call seat (Look now ticket) (ARow row) ∷ []) ≡ true
look_few log seat now limit ticket key row is was few =
    let of_key : row.key ≡ key = look_key log seat now ticket key row is was in
    let same : same_key key row.key ≡ true = ap (same_key key) of_key ∙ same_key-refl key in
    any_last (shows_few key limit ticket) log (call seat (Look now ticket) (ARow row))
    (λ k. same_self ticket k && (same k && le_to (value_in row.cells ConnCur) limit few k))
