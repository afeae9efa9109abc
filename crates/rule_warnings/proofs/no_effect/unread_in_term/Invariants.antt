use Rattle.std.proofs.Common.{◌≡◌, drop}
use Rattle.rule_warnings.specs.NoEffect.{first_of, unread_of}
use Rattle.rule_warnings.proofs.no_effect.unread_in_term.Given as goal

-- the first of those that are left is the first of all
abbrev pub invariant-loop-criterion : goal.invariant-loop-criterion
invariant-loop-criterion l =
    first_of (unread_of l.tables l.before) (drop l.criterion-index l.term.criteria) ≡ first_of (unread_of l.tables l.before) l.term.criteria
