use Rattle.std.proofs.Common.{sym, ◌∙◌}
use Rattle.proxy_header.proofs.RunLemmas.{first_here, first_later}
use Rattle.proxy_header.proofs.printing.first_longest.Goals as goal

pub returns-then-zeros_from-zeros-clause-start : goal.returns-then-zeros_from-zeros-clause-start
returns-then-zeros_from-zeros-clause-start c =
    first_here c.args.groups.now c.loop-start.start c.loop-start-test.true
    (sym c.zeros_from.ensures.count ∙ c.if-zeros_from-zeros.true ∙ c.requires.longest) c.loop-start.invariant

pub loop-start-preserved : goal.loop-start-preserved
loop-start-preserved c =
    first_later c.args.groups.now c.loop-start.start c.loop-start-test.true
    (λ same. c.if-zeros_from-zeros.false (c.zeros_from.ensures.count ∙ same ∙ sym c.requires.longest)) c.loop-start.invariant
