use Rattle.std.proofs.Common.{◌≡◌, ◌+◌, ◌≤◌, ℕ, length, map, take, vec_capacity, vec_len}
use Rattle.std.specs.List.{AllWithin}
use Rattle.tcp_relay.specs.Seating.{Has, HaveEach}
use Rattle.tcp_relay.proofs.seating.take_row.Given as goal

-- the first tables have one seat fewer, by which the row asks them
abbrev pub invariant-loop-place : goal.invariant-loop-place
invariant-loop-place g l = record {
  row : map (λ one. one.table) l.row.items ≡ take l.place l.fn.tables;
  len : vec_len l.row ≡ l.place;
  room : length l.fn.seats.items ≤ vec_capacity l.row;
  tables : length l.seats.items ≡ length l.fn.seats.items;
  some : AllWithin (λ list. 1 ≤ vec_len list) l.seats.items l.place (length l.fn.seats.items);
  fewer : (count places : ℕ) → HaveEach (count + 1) places l.fn.seats.items → AllWithin (Has count places) l.seats.items 0 l.place × AllWithin (Has (count + 1) places) l.seats.items l.place (length l.fn.seats.items);
}
