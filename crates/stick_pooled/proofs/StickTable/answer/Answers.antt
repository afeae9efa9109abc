use Rattle.stick_pooled.proofs.StickTable.answer.Goals as goal

pub returns-in-ClearWhere-clause-ok : goal.returns-in-ClearWhere-clause-ok
returns-in-ClearWhere-clause-ok c = rw c.in-ClearWhere.is c.clear_where.ensures.now
