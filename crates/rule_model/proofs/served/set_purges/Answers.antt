use Rattle.std.proofs.Common.{arith}
use Rattle.std.proofs.lemmas.List.{get_or_default}
use Rattle.std.proofs.lemmas.List.Edits.{map_over_more}
use Rattle.rule_model.specs.Served.{named_with_purge}
use Rattle.rule_model.proofs.served.set_purges.Goals as goal

pub loop-named-preserved : goal.loop-named-preserved
loop-named-preserved c =
    map_over_more (named_with_purge c.args.purge) c.args.tables.now c.loop-named.tables c.loop-named.named-index _ (omega arith) c.loop-named.invariant (get_or_default c.loop-named.tables c.loop-named.named-index _ _ (omega arith))
