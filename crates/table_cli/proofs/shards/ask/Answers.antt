use Rattle.std.proofs.Common.{Some, refl}
use Rattle.table_texts.specs.declared.message.Message.TheVariants.{OutOfMemory}
use Rattle.table_cli.proofs.ShardLemmas.{asks_then_no_memory}
use Rattle.table_cli.proofs.shards.ask.Goals as goal

pub returns-in-Err-in_key_order-clause-asks : goal.returns-in-Err-in_key_order-clause-asks
returns-in-Err-in_key_order-clause-asks g c =
    let K = g.K.Keeper in
    let asked = c.in-Ok.ensures.asks in
    (asked.0, Some OutOfMemory, asks_then_no_memory K.answers K.refuses c.args.event _ _ asked.0 asked.1 _ asked.3.0 (c.in-Ok.ensures.rows c.in-Err-in_key_order.ensures.memory) asked.2, refl)
