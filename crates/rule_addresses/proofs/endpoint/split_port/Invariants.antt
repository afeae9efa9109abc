use Rattle.std.proofs.Common.{◌≡◌, ◌<◌, ◌≤◌, ℕ, get_or, length}
use Rattle.rule_addresses.proofs.endpoint.split_port.Given as goal

-- No colon stands at this place or behind it.
abbrev pub invariant-loop-at : goal.invariant-loop-at
invariant-loop-at l = (k : ℕ) → l.at ≤ k → k < length l.text → get_or l.text k 0 ≡ 58 → ⊥
