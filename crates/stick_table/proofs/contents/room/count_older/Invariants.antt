use Rattle.stick_model.specs.Room.{count_older}
use Rattle.std.proofs.Common.{◌≡◌, ◌≤◌, take}
use Rattle.stick_table.proofs.contents.room.count_older.Given as goal

abbrev pub invariant-loop-entry : goal.invariant-loop-entry
invariant-loop-entry l = record { count : l.count ≡ count_older l.tickets (take l.entry-index l.records) l.stamp; within : l.count ≤ l.entry-index }
