-- A connection goes on by one event of a port, or by one change of phase.
use Rattle.std.specs.Prelude.{◌≡◌, ◌⊎◌, ℕ, true, false, Some, None, List}
use Rattle.stick_model.specs.declared.replies.Reply.{Reply}
use Rattle.admit_core.specs.Connection.{Connection, gave, is_release, need, need_takes_memory, refused, released_of, turned}
use Rattle.admit_core.specs.declared.need.Need.TheVariants.{Turn}
use Rattle.admit_port.specs.Calls.{AnswersAt, Call, IsAskedFor, RefusedAt, heard}
use Rattle.shard_port.specs.Port.{Meaning}
use Rattle.admit_port.specs.declared.moved.Moved.{Moved}
use Rattle.admit_port.specs.declared.moved.Moved.TheVariants.{Answered, Turned, Refused, Kept}

module _ {S R : Type 0} (m : Meaning S R) where
  -- this is what it wants of a port
  abbrev pub Wants : ℕ → Connection R → Call → Type 0
  Wants now connection call = IsAskedFor m connection.setup.shards now connection.progress.held (need connection) call

  -- it is refused what it wants: by the call's port, or as there is no memory for the key
  abbrev pub IsRefused : ℕ → List S → Connection R → Type 0
  IsRefused now ports connection = ((call : Call) × Wants now connection call × RefusedAt m ports call) ⊎ (need_takes_memory connection.setup (need connection) ≡ true)

  -- at a moment in ms, what it wants is asked and answered, or it changes its phase; or it is refused, and no port changes:
  -- then it goes on without it, but for a release, whose reference it holds again
  abbrev pub Moves : ℕ → List S → Connection R → List S → Connection R → Moved → Type 0
  Moves now old connection new after Answered = (call : Call) × (reply : Reply) × Wants now connection call × AnswersAt m old call reply new × (after ≡ heard m connection call.shard reply)
  Moves now old connection new after Turned = (need connection ≡ Turn) × (new ≡ old) × (after ≡ turned connection)
  Moves now old connection new after Refused = (is_release (need connection) ≡ false) × IsRefused now old connection × (new ≡ old) × (after ≡ refused connection None)
  Moves now old connection new after Kept =
      (reference : R) × (released_of (need connection) connection.progress ≡ Some reference) × IsRefused now old connection × (new ≡ old) × (after ≡ refused (gave connection) (Some reference))
