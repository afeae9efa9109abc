use Rattle.std.proofs.Common.{rules}
use Rattle.test_calls.proofs.CrowdLemmas.{both_counted}
use Rattle.test_calls.proofs.crowds.both.Goals as goal

pub returns : goal.returns
returns g c = record {
  both = c.held_both.ensures.both;
  counted = both_counted c.args.table.now c.args.first.held c.args.second.held c.held_both.result c.args.first.admitted c.args.second.admitted c.saturating_add-admitted.result c.requires.first.0 c.requires.second.0 c.held_both.ensures.both (search rules);
  passed = c.held_both.ensures.passed c.args.limit c.requires.first.1 c.requires.second.1;
}
