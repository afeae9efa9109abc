use Rattle.std.proofs.Common.{◌≡◌, ◌+◌, ◌<◌, ℕ, get_or}
use Rattle.stick_key.proofs.ipv6.reader.split_gap.Given as goal

-- No two colons stand in a row before this place.
abbrev pub invariant-loop-at : goal.invariant-loop-at
invariant-loop-at l = (k : ℕ) → k + 1 < l.at → get_or l.text k 0 ≡ 58 → get_or l.text (k + 1) 0 ≡ 58 → ⊥
