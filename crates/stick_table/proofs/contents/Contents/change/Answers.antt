use Rattle.stick_table.proofs.contents.Contents.change.Goals as goal

pub returns-in-Clear-clause-ok : goal.returns-in-Clear-clause-ok
returns-in-Clear-clause-ok c = rw c.in-Clear.is c.clear.ensures

pub returns-in-ClearWhere-clause-ok : goal.returns-in-ClearWhere-clause-ok
returns-in-ClearWhere-clause-ok c = rw c.in-ClearWhere.is c.clear_where.ensures
