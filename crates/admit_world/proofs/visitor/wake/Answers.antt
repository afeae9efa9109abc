use Rattle.std.proofs.Common.{◌∙◌, sym}
use Rattle.admit_core.specs.Conn.{needed}
use Rattle.admit_world.proofs.WakeLemmas.{rest_is, woken_closed, woken_same}
use Rattle.admit_world.proofs.visitor.wake.Goals as goal

pub close-requires : goal.close-requires
close-requires c = rest_is (needed c.args.visitor.now.conn) (sym c.rests.ensures ∙ c.if-rests.true)

pub returns-then-rests-clause-stands : goal.returns-then-rests-clause-stands
returns-then-rests-clause-stands c connection stands =
    woken_closed c.args.visitor.now.conn c.close.new.self c.args.visitor.now.visit connection (sym c.rests.ensures ∙ c.if-rests.true) stands (c.close.ensures.stands connection stands)

pub returns-else-rests-clause-stands : goal.returns-else-rests-clause-stands
returns-else-rests-clause-stands c connection stands = woken_same c.args.visitor.now.conn c.args.visitor.now.visit connection (sym c.rests.ensures ∙ c.if-rests.false) stands
