use Rattle.std.proofs.Common.{◌≡◌, take}
use Rattle.rule_model.proofs.rules.copy_terms.Given as goal

abbrev pub invariant-loop-term : goal.invariant-loop-term
invariant-loop-term l = l.copied ≡ take l.term-index l.terms
