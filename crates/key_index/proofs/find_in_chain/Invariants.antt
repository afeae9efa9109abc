use Rattle.std.proofs.Common.{length}
use Rattle.key_index.specs.Chains.{LeadsTo, steps_left}
use Rattle.key_index.proofs.find_in_chain.Given as goal

abbrev pub invariant-loop-slot : goal.invariant-loop-slot
invariant-loop-slot l = LeadsTo l.links l.nodes l.slot l.key

abbrev pub decreases-loop-slot : goal.decreases-loop-slot
decreases-loop-slot l = steps_left l.links (length l.links) l.slot
