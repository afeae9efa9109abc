use Rattle.std.proofs.Common.{◌≡◌, false, is_some}
use Rattle.admit_core.specs.Conn.{judged_by, progress_of}
use Rattle.admit_drive.specs.DriveCode.{moves_left}
use Rattle.admit_drive.specs.Tables.{table_states}
use Rattle.admit_drive.proofs.RestLemmas.{HasGone, IsReady}
use Rattle.admit_drive.proofs.drive.advance_to_rest.Given as goal

-- it has gone on so far, and is ready to go on
abbrev pub invariant-loop-alloc : goal.invariant-loop-alloc
invariant-loop-alloc g l = record {
  given : is_some (progress_of l.conn).given ≡ false;
  ready : IsReady (table_states l.tables) l.conn;
  setup : judged_by l.conn ≡ judged_by l.fn.conn;
  gone : HasGone l.moment (table_states l.fn.tables) l.fn.conn (table_states l.tables) l.conn;
}

abbrev pub decreases-loop-alloc : goal.decreases-loop-alloc
decreases-loop-alloc g l = moves_left l.conn
