use Rattle.std.proofs.Common.{◌≡◌, false, is_some}
use Rattle.admit_core.specs.Conn.{progress_of}
use Rattle.test_rules.proofs.lives.lives.Given as goal

abbrev pub invariant-loop-want : goal.invariant-loop-want
invariant-loop-want l = is_some (progress_of l.conn).given ≡ false
