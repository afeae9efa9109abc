-- A script whose tables are loaded first: where it begins, and why it stops.
use Rattle.std.specs.Prelude.{◌≡◌, ◌⊎◌, ℕ, List, []}
use Rattle.base_lines.specs.Service.{StopsAfter}
use Rattle.rule_model.specs.declared.sections.Setup.{Setup}
use Rattle.admit_drive.specs.Tables.{TableState}
use Rattle.table_cli.specs.SavedLines.{FaultAt}
use Rattle.table_cli.specs.Loading as loading
use Rattle.table_cli.specs.SeenLines.{seen_load}
use Rattle.table_cli.specs.declared.misfits.Misfits.{Misfits}
use Rattle.stickd_script.specs.BadLines.{Noted, bad_among, noted}
use Rattle.stickd_script.specs.Guests.{ScriptState}
use Rattle.stickd_script.specs.Script.{Says, Stops, answering, refusing}
use Rattle.stickd_script.specs.Start.{start}
use Rattle.stickd_script.specs.declared.replay.FaultKind.TheVariants.{Memory}
use Rattle.stickd_script.specs.declared.replay.ReplayFault.{ReplayFault}
use Rattle.stickd_script.specs.declared.loaded.Stopped.{Stopped}
use Rattle.stickd_script.specs.declared.loaded.Stopped.TheVariants.{Unloaded, Replay}

-- with these tables, and no connection open
abbrev pub with_tables : Setup → List TableState → ScriptState
with_tables setup tables = record (start setup) { tables = tables }

-- a saved file is loaded into tables, but for the lines that are skipped
pub record IsLoaded (misfits : Misfits) (old : List TableState) (saved : List ℕ) (skipped : List FaultAt) (new : List TableState) : Type 0 where
  pub loads : loading.IsLoaded answering refusing misfits old saved skipped new

-- it isn't, for this fault of a line
pub record IsUnloaded (misfits : Misfits) (old : List TableState) (saved : List ℕ) (found : FaultAt) (new : List TableState) : Type 0 where
  pub fails : loading.IsRefused answering refusing misfits old saved found new

-- the tables of a setup, empty before, are these once they are loaded
abbrev pub Begins : Setup → Misfits → List ℕ → List FaultAt → List TableState → Type 0
Begins setup misfits saved skipped tables = IsLoaded misfits (start setup).tables saved skipped tables

-- the script's text that was taken so far, and what was written
abbrev pub Passed : Type 1
Passed = List ℕ → Type 0

-- the replay had no memory for its tables; or its tables were loaded, and it stopped behind so many lines
abbrev pub StopsReplay : Setup → Misfits → List ℕ → Passed → Passed → ReplayFault → Noted → Type 0
StopsReplay setup misfits saved takes grows fault bad =
    ((fault ≡ record { kind = Memory; done = 0 }) × takes [] × grows [] × (bad ≡ noted []))
    ⊎ ((tables : List TableState) × (skipped : List FaultAt) × (script output : List ℕ) × (new : ScriptState) × Begins setup misfits saved skipped tables × takes script × grows output
    × StopsAfter Says Stops (with_tables setup tables) script fault.done output new × (bad ≡ noted (bad_among fault.done script)))

-- why it stopped; nothing is read or written where the tables can't be loaded
abbrev pub IsStopped : Setup → Misfits → List ℕ → Passed → Passed → Stopped → Noted → Type 0
IsStopped setup misfits saved takes grows (Unloaded found) bad =
    (tables : List TableState) × IsUnloaded misfits (start setup).tables saved (seen_load found) tables × takes [] × grows [] × (bad ≡ noted [])
IsStopped setup misfits saved takes grows (Replay fault) bad = StopsReplay setup misfits saved takes grows fault bad
