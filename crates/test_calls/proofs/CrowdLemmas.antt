-- A client that comes to a table in shards: what its calls tell of its reference.
use Rattle.std.proofs.Common.{◌≡◌, ℕ, ◌+◌, ◌-◌, ◌^◌, ◌≤◌, ◌<◌, min, refl, sym, ap, subst, ◌∙◌, arith, Bool, true, false, cond, nat_le, ◌&&◌, inl, inr, List, [], ◌∷◌, ◌++◌, Result, Ok, Err}
use Rattle.std.specs.List.{list_any}
use Rattle.std.proofs.lemmas.Bool.{cases_Bool}
use Rattle.std.proofs.lemmas.Bool.Decides.{nat_tests}
use Rattle.stick_model.specs.Key.{Key, same_key}
use Rattle.stick_model.specs.Passed.{has_passed, passing_looks}
use Rattle.stick_model.specs.State.{same_ticket}
use Rattle.stick_model.specs.declared.events.Event.TheVariants.{Look, Track}
use Rattle.stick_model.specs.declared.replies.Reply.TheVariants.{Row as ARow, Tracked}
use Rattle.stick_model.specs.declared.replies.Refusal.{Refusal}
use Rattle.stick_model.specs.declared.replies.Refusal.TheVariants.{Stale}
use Rattle.stick_model.specs.declared.rows.Row.{Row}
use Rattle.stick_model.specs.declared.rows.Ticket.{Ticket}
use Rattle.stick_model.proofs.KeyLemmas.{same_key-refl}
use Rattle.shard_record.specs.declared.view.Call.{Call}
use Rattle.shard_record.specs.Calls.{IsHistory, call, events_in, passed_in, replies_in}
use Rattle.shard_record.specs.Views.{View}
use Rattle.shard_record.specs.Telling.{IsTold, log_of, number_of}
use Rattle.shard_record.proofs.Records.{looks_append}
use Rattle.shard_record.proofs.Tickets.{same_self}
use Rattle.shard_book.specs.SeatState.{RefState}
use Rattle.shard_locks.specs.Holding.{count_held}
use Rattle.shard_locks.specs.Shared.{WasOut}
use Rattle.shard_locks.specs.ShardsState.{ShardsState, book_of}
use Rattle.shard_locks.proofs.KeyLemmas.{track_out, was_later}
use Rattle.shard_locks.proofs.LastCalls.{any_last, look_key}
use Rattle.test_calls.specs.Crowds.{WasWithin, AreAdmitted, IsKnownOut}

-- ---- a reference is made

pub tracked_is : (table : ShardsState) (place now : ℕ) (key : Key) (reference : RefState) (row : Row) (old new : View) → IsTold (book_of table place) (Track now key) (Tracked reference.ticket row) old new → reference.shard ≡ place → IsKnownOut table new reference
tracked_is table place now key reference row old new told at =
    let book : ℕ = book_of table place in
    let before : List Call = log_of book old ++ told.between in
    let was = track_out before (number_of book old) now key reference.ticket row (subst IsHistory told.log told.history) in
    (row.key, subst (λ n. WasOut (log_of (book_of table n) new) reference.ticket row.key) (sym at) (subst (λ log. WasOut log reference.ticket row.key) (sym told.log) was))

-- ---- a look

-- a look that shows few enough passes its reference
passed_last : (key : Key) (limit seat now : ℕ) (ticket : Ticket) (row : Row) (log : List Call) → row.key ≡ key → nat_le row.refs limit ≡ true → passed_in key limit (log ++ call seat (Look now ticket) (ARow row) ∷ []) (ticket, key) ≡ true
passed_last key limit seat now ticket row log of_key few =
    let one : List Call = call seat (Look now ticket) (ARow row) ∷ [] in
    let before : List Ticket = passing_looks key limit (events_in log) (replies_in log) in
    let yes : (same_key key row.key && nat_le row.refs limit) ≡ true = ap (λ k. same_key key k && nat_le row.refs limit) of_key ∙ (ap (λ b. b && nat_le row.refs limit) (same_key-refl key) ∙ few) in
    let this : passing_looks key limit (events_in one) (replies_in one) ≡ ticket ∷ [] = ap (λ (b : Bool). cond b (ticket ∷ []) [] ++ []) yes in
    let all : passing_looks key limit (events_in (log ++ one)) (replies_in (log ++ one)) ≡ before ++ ticket ∷ [] = looks_append key limit log one ∙ ap (λ ts. before ++ ts) this in
    subst (λ ts. has_passed key ts (ticket, key) ≡ true) (sym all)
    (ap (λ b. b && list_any (same_ticket ticket) (before ++ ticket ∷ [])) (same_key-refl key) ∙ any_last (same_ticket ticket) before ticket (same_self ticket))

pub looked_is : (table : ShardsState) (limit now : ℕ) (reference : RefState) (row : Row) (old new : View) → IsTold (book_of table reference.shard) (Look now reference.ticket) (ARow row) old new → nat_le row.refs limit ≡ true → IsKnownOut table old reference → WasWithin table limit reference new
looked_is table limit now reference row old new told few tracked =
    let book : ℕ = book_of table reference.shard in
    let seat : ℕ = number_of book old in
    let before : List Call = log_of book old ++ told.between in
    let key : Key = tracked.0 in
    let whole : List Call = before ++ call seat (Look now reference.ticket) (ARow row) ∷ [] in
    let was : WasOut before reference.ticket key = was_later (log_of book old) before reference.ticket key (told.between, refl) tracked.1 in
    let of_key : row.key ≡ key = look_key before seat now reference.ticket key row (subst IsHistory told.log told.history) was in
    let passed : passed_in key limit whole (reference.ticket, key) ≡ true = passed_last key limit seat now reference.ticket row before of_key few in (
      key,
      subst (λ log. WasOut log reference.ticket key) (sym told.log) (was_later before whole reference.ticket key (call seat (Look now reference.ticket) (ARow row) ∷ [], refl) was),
      subst (λ log. passed_in key limit log (reference.ticket, key) ≡ true) (sym told.log) passed,
    )

-- ---- its shard is one of the table's

below : (a b : ℕ) → nat_le a b ≡ false → b < a
below a b is = grind (arith, nat_tests, is)

not_below : (a b : ℕ) → nat_le a b ≡ true → a ≤ b
not_below a b is = grind (arith, nat_tests, is)

no_row : (row : Row) → ◌≡◌ {A = Result Row Refusal} (Ok row) (Err Stale) → ⊥
no_row row same = cc

pub is_there : (shards shard : ℕ) (row : Row) (result : Result Row Refusal) → result ≡ Ok row → (shards ≤ shard → result ≡ Err Stale) → shard < shards
is_there shards shard row result is strange =
    elim (cases_Bool (nat_le shards shard)) [
      | inl so ↦ absurd (no_row row (sym is ∙ strange (not_below shards shard so)))
      | inr not_so ↦ below shards shard not_so
    ]

-- ---- two counts

pub both_counted : (table : ShardsState) (one other new : View) (first second all : ℕ) → AreAdmitted table one first → AreAdmitted table other second → count_held table new ≡ count_held table one + count_held table other
    → all ≡ min (first + second) (2 ^ 32 - 1) → AreAdmitted table new all
both_counted table one other new first second all counted counts both sum =
    sum_of (count_held table one) (count_held table other) (count_held table new) first second all counted counts both sum
  where
    sum_of : (a b c first second all : ℕ) → first ≡ min a (2 ^ 32 - 1) → second ≡ min b (2 ^ 32 - 1) → c ≡ a + b → all ≡ min (first + second) (2 ^ 32 - 1) → all ≡ min c (2 ^ 32 - 1)
    sum_of a b c first second all counted counts both sum = omega (arith, counted, counts, both, sum)
