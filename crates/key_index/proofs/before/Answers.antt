use Rattle.key_index.proofs.SearchLemmas.{stands, arrives}
use Rattle.key_index.proofs.before.Goals as goal

pub bounds-links-at : goal.bounds-links-at
bounds-links-at c = (stands c.args.links.now c.args.first c.loop-at.before c.loop-at.at c.args.slot c.requires.small c.loop-at-test.true c.loop-at.invariant).inside

pub loop-at-smaller : goal.loop-at-smaller
loop-at-smaller c = (stands c.args.links.now c.args.first c.loop-at.before c.loop-at.at c.args.slot c.requires.small c.loop-at-test.true c.loop-at.invariant).nearer

pub loop-at-preserved : goal.loop-at-preserved
loop-at-preserved c = (stands c.args.links.now c.args.first c.loop-at.before c.loop-at.at c.args.slot c.requires.small c.loop-at-test.true c.loop-at.invariant).on

pub returns : goal.returns
returns c = arrives c.args.links.now c.args.first c.loop-at.before c.loop-at.at c.args.slot c.loop-at-test.false c.loop-at.invariant
