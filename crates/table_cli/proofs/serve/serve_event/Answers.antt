use Rattle.std.proofs.Common.{Some, refl}
use Rattle.table_texts.specs.declared.message.Message.TheVariants.{OutOfMemory}
use Rattle.table_cli.proofs.ShardLemmas.{asks_then_no_memory}
use Rattle.table_cli.proofs.serve.serve_event.Goals as goal

pub returns-in-Ok-clause-serves : goal.returns-in-Ok-clause-serves
returns-in-Ok-clause-serves g c =
    let K = g.K.Keeper in
    let asked = c.in-Ok.ensures.asks in
    (asked.0, Some OutOfMemory, asks_then_no_memory K.answers K.refuses c.args.event _ _ asked.0 asked.1 _ asked.3.0 (c.in-Ok.ensures.rows c.in-Err-of_reply.ensures.memory) asked.2, refl)
