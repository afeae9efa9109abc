-- A line of the code, without where it lies in memory; and what a server works on.
use Rattle.std.specs.Prelude.{ℕ, ◌<◌, ◌^◌, List}
use Rattle.rule_model.specs.declared.sections.Setup.{Setup}
use Rattle.shard_book.specs.BooksState.{BooksState}
use Rattle.shard_book.specs.declared.named.Named.{Named}
use Rattle.admit_drive.specs.Tables.{table_states}
use Rattle.stickd_script.specs.Guests.{Guest, ScriptState}
use Rattle.stickd_script.specs.BadLines.{Noted, Noting}
use Rattle.stickd_script.specs.Script as spec
use Rattle.stickd_script.specs.declared.line.Line.{Line}
use Rattle.stickd_script.specs.declared.line.Line.TheVariants.{Empty, Bad, Commands, Open, Close}

abbrev pub seen : Line → spec.Line
seen Empty = spec.Empty
seen Bad = spec.Bad
seen (Commands moment commands) = spec.Commands moment commands.now
seen (Open moment id address port) = spec.Open moment id address.now port
seen (Close moment id bytes_in bytes_out) = spec.Close moment id bytes_in bytes_out

-- its moment, if it has one, is at most 2^62 - 1
abbrev pub IsTimely : Line → Type 0
IsTimely Empty = Unit {0}
IsTimely Bad = Unit {0}
IsTimely (Commands moment commands) = moment < 2 ^ 62
IsTimely (Open moment id address port) = moment < 2 ^ 62
IsTimely (Close moment id bytes_in bytes_out) = moment < 2 ^ 62

-- the setup, the tables and the connections
abbrev pub script_state : Setup → List (Named BooksState) → List Guest → ScriptState
script_state setup tables guests = record { setup = setup; tables = table_states tables; guests = guests }

-- and what is noted of its lines
abbrev pub noting_of : Setup → List (Named BooksState) → List Guest → ℕ → Noted → Noting
noting_of setup tables guests lines bad = record { script = script_state setup tables guests; lines = lines; bad = bad }
