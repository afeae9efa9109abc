use Rattle.stick_pooled.proofs.StickTable.answer_twice.Goals as goal

pub returns-in-List-clause-ok : goal.returns-in-List-clause-ok
returns-in-List-clause-ok c = rw c.in-List.is c.list_twice.ensures.ok
