use Rattle.proxy_header.proofs.RunLemmas.{is_max, longest_more}
use Rattle.proxy_header.proofs.printing.longest.Goals as goal

pub loop-start-preserved : goal.loop-start-preserved
loop-start-preserved c =
    longest_more c.args.groups.now c.loop-start.start c.loop-start.longest c.zeros_from.result c.max-longest.result
    c.loop-start-test.true c.zeros_from.ensures.count (is_max _ _ _ c.max-longest.ensures) c.loop-start.invariant
