use Rattle.std.proofs.Common.{◌≡◌, ◌++◌, drop}
use Rattle.rule_model.specs.Served.{tables_of}
use Rattle.rule_model.proofs.served.named_specs.Given as goal

-- the tables so far, and those of the sections that are left
abbrev pub invariant-loop-section : goal.invariant-loop-section
invariant-loop-section l = l.tables ++ tables_of (drop l.section-index l.sections) ≡ tables_of l.sections
