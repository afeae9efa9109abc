-- What the code of a connection does.
use Rattle.std.specs.Prelude.{ℕ, Bool, List}
use Rattle.admit_core.specs.Conn.{progress_of, rules_left, Stands}
use Rattle.admit_core.specs.Left.{left_of}
use Rattle.admit_core.specs.Connection.{Connection}
use Rattle.admit_core.specs.declared.conn.Conn.{Conn}
use Rattle.admit_drive.specs.Lived.{IsLived}
use Rattle.admit_drive.specs.Moves.{Moves, ComesToRest}
use Rattle.admit_drive.specs.Tables.{TableState}
use Rattle.shard_port.specs.declared.reference.Reference.{Reference}

-- whatever connection it is, that has moved so
abbrev pub HasMoved : ℕ → List TableState → Conn Reference → List TableState → Conn Reference → Bool → Type 0
HasMoved now old conn new later was_refused =
    (connection : Connection Reference) → Stands conn connection → (after : Connection Reference) × Stands later after × Moves now old connection new after was_refused

-- it is a connection that came, whatever became of it
abbrev pub IsLiving : Conn Reference → Type 0
IsLiving conn = (connection : Connection Reference) × Stands conn connection × IsLived connection

-- the same, until it rests or is finished
abbrev pub HasComeToRest : ℕ → List TableState → Conn Reference → List TableState → Conn Reference → Type 0
HasComeToRest now old conn new later =
    (connection : Connection Reference) → Stands conn connection → (after : Connection Reference) × Stands later after × ComesToRest now old connection new after

-- how much it has left to do
abbrev pub moves_left : Conn Reference → ℕ
moves_left conn = left_of (rules_left conn) (progress_of conn)
