use Rattle.std.proofs.Common.{◌≡◌, ◌++◌, drop}
use Rattle.rule_config.specs.Lines.{terms_needs}
use Rattle.rule_config.proofs.needs.push_terms.Given as goal

-- what was added, and what those that are left add
abbrev pub invariant-loop-term : goal.invariant-loop-term
invariant-loop-term l = l.needs ++ terms_needs l.line (drop l.term-index l.terms) ≡ l.fn.needs ++ terms_needs l.line l.terms
