-- What a connection's answers tell of it, whatever came of it so far.
use Rattle.std.specs.Prelude.{◌≡◌, true, None}
use Rattle.rule_eval.specs.Tracking.{slots_by}
use Rattle.rule_eval.specs.declared.wants.Verdict.TheVariants.{Accept}
use Rattle.rule_eval.specs.declared.wants.Want.TheVariants.{Done}
use Rattle.admit_core.specs.Connection.{Connection, asks, is_judged}
use Rattle.admit_core.specs.Held.{tables_of}
use Rattle.admit_core.specs.declared.need.Phase.TheVariants.{Admitted}
use Rattle.shard_port.specs.declared.reference.Reference.{Reference}

-- while it is judged it holds what its rules track; once it is admitted they accept it; and no reference is handed out
pub record IsLived (connection : Connection Reference) : Type 0 where
  pub tracks : is_judged connection.progress.phase ≡ true → tables_of connection.progress.held ≡ slots_by connection.setup connection.samples connection.answers
  pub accepted : connection.progress.phase ≡ Admitted → asks connection ≡ Done Accept
  pub given : connection.progress.given ≡ None
