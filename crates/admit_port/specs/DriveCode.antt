-- What the code of a connection does.
use Rattle.std.specs.Prelude.{◌≡◌, ℕ, true, false, is_some, List, length}
use Rattle.admit_core.specs.Conn.{judged_by, needed, progress_of, rules_left, Stands}
use Rattle.admit_core.specs.Connection.{Connection, is_release}
use Rattle.admit_core.specs.Left.{left_of}
use Rattle.admit_core.specs.declared.conn.Conn.{Conn}
use Rattle.admit_port.specs.Calls.{Call, IsAskedFor, RefusedAt}
use Rattle.admit_port.specs.Moves.{Moves}
use Rattle.shard_port.specs.Port.{Meaning}
use Rattle.admit_port.specs.Ports.{ArePorts, HoldsOf}
use Rattle.admit_port.specs.declared.moved.Moved.{Moved}

-- it is a connection, whatever came of it so far
abbrev pub IsConnection : {R : Type 0} → Conn R → Type 0
IsConnection {R = R} conn = ∥ ((connection : Connection R) × Stands conn connection) ∥₁

-- how much it has left to do
abbrev pub moves_left : {R : Type 0} → Conn R → ℕ
moves_left conn = left_of (rules_left conn) (progress_of conn)

-- it has ports of its setup, and no reference is handed out
pub record CanGoOn {S R : Type 0} (m : Meaning S R) (ports : List S) (conn : Conn R) : Type 0 where
  pub shared : ArePorts m.parts (judged_by conn) ports
  pub held : HoldsOf (length ports) (progress_of conn).held
  pub given : is_some (progress_of conn).given ≡ false

-- whatever connection it is, that has moved so
abbrev pub HasMoved : {S R : Type 0} → Meaning S R → ℕ → List S → Conn R → List S → Conn R → Moved → Type 0
HasMoved {S = S} {R = R} m now old conn new later moved =
    (connection : Connection R) → Stands conn connection → (after : Connection R) × Stands later after × Moves m now old connection new after moved

-- it wants a release, and the port that it asks refuses it
abbrev pub IsReleaseRefused : {S R : Type 0} → Meaning S R → ℕ → List S → Conn R → Type 0
IsReleaseRefused m now ports conn =
    (call : Call) × (is_release (needed conn) ≡ true) × IsAskedFor m (judged_by conn).shards now (progress_of conn).held (needed conn) call × RefusedAt m ports call
