-- Facts of the places of counts and of sums in them.
use Rattle.std.proofs.Common.{◌≡◌, ℕ, ◌+◌, ◌<◌, ◌≤◌, List, length, slice_index, slice_set, arith}
use Rattle.std.proofs.lemmas.Grind.{common_steps, get_or-set_at}
use Rattle.std.proofs.lemmas.List.{get_or-set_other}

-- one more place is written, and each before it was
pub written_below : (xs : List ℕ) (i v : ℕ) (wanted : ℕ → ℕ) → i < length xs → v ≡ wanted i → ((k : ℕ) → k < i → slice_index xs k ≡ wanted k) → (k : ℕ) → k < i + 1 → slice_index (slice_set xs i v) k ≡ wanted k
written_below xs i v wanted inside is before k below = grind (arith, common_steps, before k, get_or-set_at, get_or-set_other)

-- a place that is written leaves those behind it
pub kept_behind : (xs : List ℕ) (i v : ℕ) (old : ℕ → ℕ) → ((k : ℕ) → i ≤ k → slice_index xs k ≡ old k) → (k : ℕ) → i + 1 ≤ k → slice_index (slice_set xs i v) k ≡ old k
kept_behind xs i v old kept k behind = grind (arith, common_steps, kept k, get_or-set_other)
