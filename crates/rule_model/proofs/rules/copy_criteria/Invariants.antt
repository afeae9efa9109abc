use Rattle.std.proofs.Common.{◌≡◌, take}
use Rattle.rule_model.proofs.rules.copy_criteria.Given as goal

abbrev pub invariant-loop-criterion : goal.invariant-loop-criterion
invariant-loop-criterion l = l.copied ≡ take l.criterion-index l.criteria
