use Rattle.stick_table.proofs.contents.Contents.answer.Goals as goal

pub returns-in-List-clause-ok : goal.returns-in-List-clause-ok
returns-in-List-clause-ok c = rw c.in-List.is c.list.ensures.ok
