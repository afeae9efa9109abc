use Rattle.std.proofs.Common.{◌≡◌, ℕ, ◌+◌, ◌*◌, ◌<◌, length, get_or}
use Rattle.proxy_header.proofs.printing.groups_of.Given as goal

-- the groups so far are those of the address.
abbrev pub invariant-loop-place : goal.invariant-loop-place
invariant-loop-place l = record {
  long : length l.groups ≡ 8;
  each : (k : ℕ) → k < l.place → get_or l.groups k 0 ≡ 256 * get_or l.address (2 * k) 0 + get_or l.address (2 * k + 1) 0;
}
