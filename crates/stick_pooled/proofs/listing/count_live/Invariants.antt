use Rattle.stick_pooled.proofs.UsedLemmas.{IsWalk}
use Rattle.stick_pooled.proofs.listing.count_live.Given as goal

abbrev pub invariant-loop-next : goal.invariant-loop-next
invariant-loop-next l = IsWalk l.store l.expire l.clock l.live l.next

abbrev pub decreases-loop-next : goal.decreases-loop-next
decreases-loop-next l = l.live
