-- What every script keeps.
use Rattle.std.specs.Prelude.{◌≡◌, ℕ, List, Some}
use Rattle.base_lines.specs.Service.{ServesAll}
use Rattle.stick_key.specs.Shard.{shard}
use Rattle.stick_model.specs.Key.{Key}
use Rattle.stick_model.specs.State.{State, record_at}
use Rattle.stick_model.specs.declared.rows.Record.{Record}
use Rattle.rule_model.specs.declared.sections.Setup.{Setup}
use Rattle.admit_drive.specs.Tables.{CanOpen, shard_at}
use Rattle.stickd_script.specs.Guests.{AreHeld, ScriptState}
use Rattle.stickd_script.specs.Script.{Says}
use Rattle.stickd_script.specs.Start.{start}

-- wherever the lines of a script lead to from empty tables: a reference is out exactly where one open connection holds it, once
abbrev pub ReferencesLaw : Type 0
ReferencesLaw = (setup : Setup) (script output : List ℕ) (new : ScriptState) → CanOpen setup → ServesAll Says (start setup) script output new → AreHeld new

-- wherever they lead to, a shard of a table keeps records of such keys alone as lie on that shard
abbrev pub KeysLaw : Type 0
KeysLaw = (setup : Setup) (script output : List ℕ) (new : ScriptState) (table part : ℕ) (live : State) (key : Key) (found : Record) → CanOpen setup → ServesAll Says (start setup) script output new →
    shard_at new.tables table part ≡ Some live → record_at key live.records ≡ Some found → shard key setup.shards ≡ part
