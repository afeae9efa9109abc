-- One round more of housekeeping.
use Rattle.std.proofs.Common.{◌≡◌, ℕ, suc, ◌+◌, ◌-◌, ◌^◌, ◌<◌, min, List, length, get_or, Some, sym, ap, ◌∙◌, subst, arith}
use Rattle.std.specs.Prelude.{slice_get}
use Rattle.std.proofs.lemmas.Option.{slice_get-get_or}
use Rattle.shard_locks.specs.ShardsState.{ShardsState}
use Rattle.shard_housekeeping.specs.Keeping.{ByFirst, KeepsRound, RoundState}

pub get_at : {X : Type 0} (xs : List X) (i : ℕ) (x : X) → i < length xs → x ≡ get_or xs i x → slice_get xs i ≡ Some x
get_at xs i x below is = slice_get-get_or xs i x below ∙ ap Some (sym is)

-- one step more
pub by_first_more : {State : Type 0} (step : ℕ → State → State → Type 0) (n : ℕ) (first old new : State) → ByFirst step n first old → step n old new → ByFirst step (n + 1) first new
by_first_more step n first old new before here =
    let next : suc n ≡ n + 1 = omega arith in
    subst (λ k. ByFirst step k first new) next (old, before, here)

more_counted : (count counted after : ℕ) → counted ≡ min count (2 ^ 64 - 1) → after ≡ min (counted + 1) (2 ^ 64 - 1) → after ≡ min (count + 1) (2 ^ 64 - 1)
more_counted count counted after is then = omega (arith, is, then)

pub rounds_more : {C : Type 0} (shows : C → ℕ → C → Type 0) (tables : List ShardsState) (count counted after : ℕ) (first old new : RoundState C)
    → counted ≡ min count (2 ^ 64 - 1) → after ≡ min (counted + 1) (2 ^ 64 - 1) → ByFirst (λ round. KeepsRound shows tables) count first old → KeepsRound shows tables old new
    → (n : ℕ) × (after ≡ min n (2 ^ 64 - 1)) × ByFirst (λ round. KeepsRound shows tables) n first new
rounds_more shows tables count counted after first old new is then before here =
    (count + 1, more_counted count counted after is then, by_first_more (λ round. KeepsRound shows tables) count first old new before here)
