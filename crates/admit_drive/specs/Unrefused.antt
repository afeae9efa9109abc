-- Moves of one connection at which nothing is refused.
use Rattle.std.specs.Prelude.{◌≡◌, ℕ, zero, suc, true, false, List}
use Rattle.admit_core.specs.Connection.{Connection, need}
use Rattle.admit_core.specs.Left.{is_still}
use Rattle.admit_drive.specs.Moves.{Moves}
use Rattle.admit_drive.specs.Tables.{TableState}
use Rattle.shard_port.specs.declared.reference.Reference.{Reference}

-- so many times a connection goes on, at one moment, and nothing is refused
abbrev pub GoesUnrefused : ℕ → ℕ → List TableState → Connection Reference → List TableState → Connection Reference → Type 0
GoesUnrefused now zero old connection new after = (new ≡ old) × (after ≡ connection)
GoesUnrefused now (suc count) old connection new after =
    (middle : List TableState) × (next : Connection Reference) × Moves now old connection middle next false × GoesUnrefused now count middle next new after

-- and so until it rests or is finished
pub record ComesToRestUnrefused (now : ℕ) (old : List TableState) (connection : Connection Reference) (new : List TableState) (after : Connection Reference) : Type 0 where
  pub count : ℕ
  pub goes : GoesUnrefused now count old connection new after
  pub still : is_still (need after) ≡ true
