use Rattle.std.proofs.Common.{take}
use Rattle.shard_settling.proofs.SeatsLemmas.{AllTold}
use Rattle.shard_settling.proofs.telling.are_told.Given as goal

abbrev pub invariant-loop-seat : goal.invariant-loop-seat
invariant-loop-seat g l = AllTold l.shard (take l.seat-index l.seats) l.calls l.replies
