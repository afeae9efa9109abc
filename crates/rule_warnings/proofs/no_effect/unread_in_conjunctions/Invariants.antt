use Rattle.std.proofs.Common.{◌≡◌, drop}
use Rattle.rule_warnings.specs.NoEffect.{first_of, unread_in_terms}
use Rattle.rule_warnings.proofs.no_effect.unread_in_conjunctions.Given as goal

-- the first of those that are left is the first of all
abbrev pub invariant-loop-terms : goal.invariant-loop-terms
invariant-loop-terms l =
    first_of (unread_in_terms l.tables l.before) (drop l.terms-index l.conjunctions) ≡ first_of (unread_in_terms l.tables l.before) l.conjunctions
