use Rattle.std.proofs.Common.{◌≡◌, ◌≤◌, vec_capacity, vec_len}
use Rattle.tcp_relay.proofs.buffers.reserve_buffers.Given as goal

-- so many are there, and there is room for all
abbrev pub invariant-loop-buffers : goal.invariant-loop-buffers
invariant-loop-buffers g l = (vec_len l.all_buffers ≡ l._buffers) × (l.fn.count ≤ vec_capacity l.all_buffers)
