use Rattle.std.proofs.Common.{◌≡◌, ◌≤◌, take, length, vec_len, vec_capacity}
use Rattle.stick_model.specs.Run.{Run}
use Rattle.stick_table.proofs.running.run.Given as goal

abbrev pub invariant-loop-event : goal.invariant-loop-event
invariant-loop-event g l = record {
  run : Run (g.T.Table.state l.fn.table) (take l.event-index l.events) l.replies.items (g.T.Table.state l.table);
  base : g.T.Table.base l.table ≡ g.T.Table.base l.fn.table;
  used : vec_len l.replies ≡ l.event-index;
  room : length l.events ≤ vec_capacity l.replies;
}
