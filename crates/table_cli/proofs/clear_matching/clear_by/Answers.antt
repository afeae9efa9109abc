use Rattle.std.proofs.Common.{Some, refl}
use Rattle.stick_model.specs.declared.events.Event.TheVariants.{List as ListRows}
use Rattle.table_texts.specs.declared.message.Message.TheVariants.{OutOfMemory}
use Rattle.table_cli.proofs.ClearingLemmas.{clears_listed, clears_nothing}
use Rattle.table_cli.proofs.ShardLemmas.{asks_then_no_memory}
use Rattle.table_cli.proofs.clear_matching.clear_by.Goals as goal

pub returns-in-Err-rows_of-clause-clears : goal.returns-in-Err-rows_of-clause-clears
returns-in-Err-rows_of-clause-clears g c =
    let K = g.K.Keeper in
    let asked = c.in-Ok.ensures.asks in
    clears_nothing K.answers K.refuses c.args.moment (K.parts c.args.keeper.now) c.args.first c.args.others.now (K.state c.args.keeper.now) (K.state c.ask.new.keeper) asked.0 (Some OutOfMemory) OutOfMemory
    (asks_then_no_memory K.answers K.refuses (ListRows c.args.moment c.args.first) _ _ asked.0 asked.1 _ asked.3.0 refl asked.2) refl

pub returns-clause-clears : goal.returns-clause-clears
returns-clause-clears g c =
    let K = g.K.Keeper in
    let asked = c.in-Ok.ensures.asks in
    clears_listed K.answers K.refuses c.args.moment (K.parts c.args.keeper.now) c.args.first c.args.others.now (K.state c.args.keeper.now) (K.state c.ask.new.keeper) (K.state c.clear_each.new.keeper) asked.0 asked.1 c.in-Ok.reply
    c.in-Ok-rows_of.rows.items (K.parts c.ask.new.keeper) c.clear_each.result asked.2 asked.3.0 asked.3.1 c.in-Ok-rows_of.ensures c.ask.ensures.parts c.clear_each.ensures.clears
