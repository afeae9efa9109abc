use Rattle.stick_model.specs.Room.{all_tracked}
use Rattle.std.proofs.Common.{◌≡◌, drop}
use Rattle.stick_table.proofs.contents.room.all_tracked.Given as goal

abbrev pub invariant-loop-entry : goal.invariant-loop-entry
invariant-loop-entry l = all_tracked l.tickets (drop l.entry-index l.records) ≡ all_tracked l.tickets l.records
