use Rattle.std.proofs.Common.{◌≡◌, ℕ, ◌+◌, ◌*◌, ◌/◌, ◌%◌, ◌<◌, length, get_or}
use Rattle.stick_key.proofs.ipv6.groups.bytes_of.Given as goal

-- The bytes so far are those of the groups so far.
abbrev pub invariant-loop-place : goal.invariant-loop-place
invariant-loop-place l = record {
  long : length l.bytes ≡ 16;
  high : (k : ℕ) → k < l.place → get_or l.bytes (2 * k) 0 ≡ get_or l.groups k 0 / 256;
  low : (k : ℕ) → k < l.place → get_or l.bytes (2 * k + 1) 0 ≡ get_or l.groups k 0 % 256;
}
