use Rattle.std.proofs.Common.{◌≡◌, ◌++◌, drop}
use Rattle.std.specs.List.{flat_map}
use Rattle.rule_config.specs.Lines.{terms_needs}
use Rattle.rule_config.proofs.needs.push_condition.Given as goal

-- what was added, and what those that are left add
abbrev pub invariant-loop-terms : goal.invariant-loop-terms
invariant-loop-terms l = l.needs ++ flat_map (terms_needs l.line) (drop l.terms-index l.condition) ≡ l.fn.needs ++ flat_map (terms_needs l.line) l.condition
