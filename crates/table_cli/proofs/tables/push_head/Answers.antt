use Rattle.std.proofs.Common.{Some, refl}
use Rattle.table_texts.specs.declared.message.Message.TheVariants.{OutOfMemory}
use Rattle.stick_model.specs.declared.events.Event.TheVariants.{List as ListRows}
use Rattle.stick_model.specs.declared.filters.Filter.TheVariants.{Nothing}
use Rattle.table_cli.proofs.ShardLemmas.{asks_then_no_memory}
use Rattle.table_cli.proofs.tables.push_head.Goals as goal

pub returns-in-Err-push_header-clause-asks : goal.returns-in-Err-push_header-clause-asks
returns-in-Err-push_header-clause-asks g c =
    let K = g.K.Keeper in
    let asked = c.in-Ok.ensures.asks in
    (asked.0, Some OutOfMemory, asks_then_no_memory K.answers K.refuses (ListRows c.args.moment Nothing) _ _ asked.0 asked.1 _ asked.3.0 refl asked.2, refl)
