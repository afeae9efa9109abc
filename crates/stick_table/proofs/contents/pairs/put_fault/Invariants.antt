use Rattle.std.proofs.Common.{◌≡◌, drop}
use Rattle.stick_model.specs.Step.{put_fault}
use Rattle.stick_table.proofs.contents.pairs.put_fault.Given as goal

abbrev pub invariant-loop-pair : goal.invariant-loop-pair
invariant-loop-pair l = put_fault l.columns (drop l.pair-index l.pairs) ≡ put_fault l.columns l.pairs
