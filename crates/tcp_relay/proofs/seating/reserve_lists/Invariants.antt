use Rattle.std.proofs.Common.{◌≡◌, ◌≤◌, vec_capacity, vec_len}
use Rattle.tcp_relay.specs.Seating.{HaveEach}
use Rattle.tcp_relay.proofs.seating.reserve_lists.Given as goal

-- so many are there, and there is room for all
abbrev pub invariant-loop-list : goal.invariant-loop-list
invariant-loop-list g l = (vec_len l.lists ≡ l._list) × (l.fn.count ≤ vec_capacity l.lists) × HaveEach 0 l.fn.places l.lists.items
