use Rattle.std.proofs.Common.{◌≡◌, ◌++◌, drop}
use Rattle.rule_config.specs.Lines.{criteria_needs}
use Rattle.rule_config.proofs.needs.push_criteria.Given as goal

-- what was added, and what those that are left add
abbrev pub invariant-loop-criterion : goal.invariant-loop-criterion
invariant-loop-criterion l = l.needs ++ criteria_needs l.line (drop l.criterion-index l.criteria) ≡ l.fn.needs ++ criteria_needs l.line l.criteria
