-- What a connection's code stands for.
use Rattle.std.specs.Prelude.{◌≡◌, ℕ, []}
use Rattle.rule_model.specs.declared.sections.Setup.{Setup}
use Rattle.rule_eval.specs.Eval.{left, remaining, setup_of, Stands as EvalStands}
use Rattle.rule_eval.specs.declared.wants.Want.{Want}
use Rattle.admit_core.specs.Connection.{Connection, Progress, need_of}
use Rattle.admit_core.specs.declared.conn.Conn.{Conn}
use Rattle.admit_core.specs.declared.need.Need.{Need}

unfoldable pub progress_of : {R : Type 0} → Conn R → Progress R
progress_of conn = record { phase = conn.phase; bytes = conn.bytes; counted = conn.counted; held = conn.held; given = conn.given }

-- what its rules ask next
unfoldable pub wanted : {R : Type 0} → Conn R → Want
wanted conn = remaining conn.eval []

-- the setup that it is judged by
unfoldable pub judged_by : {R : Type 0} → Conn R → Setup
judged_by conn = setup_of conn.eval

-- how much its rules can still ask
unfoldable pub rules_left : {R : Type 0} → Conn R → ℕ
rules_left conn = left conn.eval

-- what it wants next
abbrev pub needed : {R : Type 0} → Conn R → Need
needed conn = need_of (wanted conn) (progress_of conn)

-- it is this connection
unfoldable pub Judges : {R : Type 0} → Conn R → Connection R → Type 0
Judges conn connection = EvalStands conn.eval connection.setup connection.samples connection.answers

pub record Stands {R : Type 0} (conn : Conn R) (connection : Connection R) : Type 0 where
  pub judges : Judges conn connection
  pub progress : progress_of conn ≡ connection.progress
