use Rattle.std.proofs.Common.{length}
use Rattle.key_index.specs.Chains.{steps_left}
use Rattle.key_index.proofs.SearchLemmas.{Approaches}
use Rattle.key_index.proofs.before.Given as goal

abbrev pub invariant-loop-at : goal.invariant-loop-at
invariant-loop-at l = Approaches l.links l.first l.before l.at l.slot

abbrev pub decreases-loop-at : goal.decreases-loop-at
decreases-loop-at l = steps_left l.links (length l.links) l.at
