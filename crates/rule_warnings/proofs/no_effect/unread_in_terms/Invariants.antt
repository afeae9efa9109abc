use Rattle.std.proofs.Common.{◌≡◌, drop}
use Rattle.rule_warnings.specs.NoEffect.{first_of, unread_in_term}
use Rattle.rule_warnings.proofs.no_effect.unread_in_terms.Given as goal

-- the first of those that are left is the first of all
abbrev pub invariant-loop-term : goal.invariant-loop-term
invariant-loop-term l =
    first_of (unread_in_term l.tables l.before) (drop l.term-index l.terms) ≡ first_of (unread_in_term l.tables l.before) l.terms
