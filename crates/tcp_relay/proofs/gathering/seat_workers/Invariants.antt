use Rattle.std.proofs.Common.{◌≡◌, ◌≤◌, ◌+◌, length, vec_capacity, vec_len}
use Rattle.tcp_relay.specs.Seating.{HaveEach}
use Rattle.tcp_relay.proofs.gathering.seat_workers.Given as goal

-- each table has a seat for each worker that is still to be seated
abbrev pub invariant-loop-places : goal.invariant-loop-places
invariant-loop-places g l = record {
  rows : vec_len l.rows ≡ vec_len l.held;
  free : vec_len l.free ≡ vec_len l.held;
  all_buffers : vec_len l.all_buffers ≡ vec_len l.held;
  seated : vec_len l.workers + vec_len l.held ≡ length l.fn.rooms.rows.items;
  room : length l.fn.rooms.rows.items ≤ vec_capacity l.workers;
  tables : length l.seats.items ≡ g.W.Width.tables;
  seats : HaveEach (vec_len l.held) (length l.fn.rooms.rows.items) l.seats.items;
  empty_rows : HaveEach 0 g.W.Width.tables l.rows.items;
  empty_connections : HaveEach 0 g.W.Width.most l.held.items;
}

abbrev pub decreases-loop-places : goal.decreases-loop-places
decreases-loop-places g l = vec_len l.held
