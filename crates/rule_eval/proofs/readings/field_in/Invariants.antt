use Rattle.std.proofs.Common.{◌≡◌, drop}
use Rattle.rule_eval.specs.Readings.{field_in}
use Rattle.rule_eval.proofs.readings.field_in.Given as goal

-- what is left shows what the whole does
abbrev pub invariant-loop-cell : goal.invariant-loop-cell
invariant-loop-cell l = field_in (drop l.cell-index l.cells) l.field ≡ field_in l.cells l.field
