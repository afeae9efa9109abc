use Rattle.std.proofs.Common.{Some, refl}
use Rattle.stick_model.specs.declared.events.Event.TheVariants.{List as ListRows}
use Rattle.table_texts.specs.declared.message.Message.TheVariants.{OutOfMemory}
use Rattle.table_cli.proofs.ShardLemmas.{asks_then_no_memory}
use Rattle.table_cli.proofs.show_matching.show_by.Goals as goal

pub returns-in-Err-answer_of-clause-shows : goal.returns-in-Err-answer_of-clause-shows
returns-in-Err-answer_of-clause-shows g c =
    let K = g.K.Keeper in
    let asked = c.in-Ok.ensures.asks in
    (asked.0, Some OutOfMemory, asks_then_no_memory K.answers K.refuses (ListRows c.args.moment c.args.first) _ _ asked.0 asked.1 _ asked.3.0 refl asked.2, refl)
