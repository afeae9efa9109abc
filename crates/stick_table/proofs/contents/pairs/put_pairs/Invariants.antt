use Rattle.std.proofs.Common.{◌≡◌, drop}
use Rattle.stick_model.specs.Step.{put_pairs}
use Rattle.stick_table.proofs.contents.pairs.put_pairs.Given as goal

abbrev pub invariant-loop-pair : goal.invariant-loop-pair
invariant-loop-pair l = put_pairs (drop l.pair-index l.pairs) l.values ≡ put_pairs l.pairs l.fn.values
