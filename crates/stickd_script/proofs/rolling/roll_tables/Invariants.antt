use Rattle.std.proofs.Common.{◌≡◌}
use Rattle.stickd_script.proofs.RollLemmas.{rolled_before}
use Rattle.stickd_script.proofs.rolling.roll_tables.Given as goal

-- Those so far are rolled when due, and the others are as they were.
abbrev pub invariant-loop-place : goal.invariant-loop-place
invariant-loop-place g l = l.tables.items ≡ rolled_before l.place l.fn.tables.items
