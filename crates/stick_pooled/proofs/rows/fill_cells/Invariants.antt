use Rattle.std.proofs.Common.{◌≡◌, ◌≤◌, take, map, Some, length, vec_len, vec_capacity}
use Rattle.stick_pooled.specs.Stock.{Held, held_at}
use Rattle.stick_model.specs.Gathered.{cell_of}
use Rattle.stick_pooled.proofs.rows.fill_cells.Given as goal

abbrev pub invariant-loop-place : goal.invariant-loop-place
invariant-loop-place l = record {
  shows : (held : Held) → held_at l.store l.slot ≡ Some held → l.cells.items ≡ map (cell_of l.clock l.refs held.values) (take l.place l.fields);
  used : vec_len l.cells ≡ l.place;
  room : length l.fields ≤ vec_capacity l.cells;
}
