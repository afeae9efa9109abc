use Rattle.std.proofs.Common.{◌≡◌, take}
use Rattle.rule_model.proofs.rules.copy_conjunctions.Given as goal

abbrev pub invariant-loop-terms : goal.invariant-loop-terms
invariant-loop-terms l = l.copied ≡ take l.terms-index l.conjunctions
