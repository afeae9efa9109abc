use Rattle.std.proofs.Common.{◌≡◌, ◌+◌, ◌≤◌, ℕ, length, vec_capacity, vec_len}
use Rattle.std.specs.List.{AllWithin}
use Rattle.tcp_relay.specs.Seating.{Has, HaveEach}
use Rattle.tcp_relay.proofs.seating.put_row.Given as goal

-- the last tables have one seat more, and the row has those of the first
abbrev pub invariant-loop-seated : goal.invariant-loop-seated
invariant-loop-seated g l = record {
  row : vec_len l.row ≤ length l.fn.seats.items;
  tables : length l.seats.items ≡ length l.fn.seats.items;
  room : AllWithin (λ list. vec_len list + 1 ≤ vec_capacity list) l.seats.items 0 (vec_len l.row);
  more : (count places : ℕ) → HaveEach count places l.fn.seats.items → AllWithin (Has count places) l.seats.items 0 (vec_len l.row) × AllWithin (Has (count + 1) places) l.seats.items (vec_len l.row) (length l.fn.seats.items);
}

abbrev pub decreases-loop-seated : goal.decreases-loop-seated
decreases-loop-seated g l = vec_len l.row
