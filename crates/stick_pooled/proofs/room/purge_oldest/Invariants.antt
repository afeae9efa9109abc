use Rattle.stick_pooled.proofs.GoneLemmas.{AreGone}
use Rattle.stick_pooled.proofs.room.purge_oldest.Given as goal

-- so many are gone as there were rounds
abbrev pub invariant-loop-round : goal.invariant-loop-round
invariant-loop-round l = AreGone l._round l.fn.store l.store
