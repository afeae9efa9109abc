use Rattle.std.proofs.Common.{◌≡◌, drop}
use Rattle.std.specs.List.{find}
use Rattle.stored_data.specs.Data.{all_data}
use Rattle.stored_data.specs.Names.{is_read_by}
use Rattle.stored_data.proofs.datum.read_fetch.Given as goal

-- None of the data so far is read by that name.
abbrev pub invariant-loop-datum : goal.invariant-loop-datum
invariant-loop-datum l = find (is_read_by l.text) (drop l.datum-index l.datum-items) ≡ find (is_read_by l.text) all_data
