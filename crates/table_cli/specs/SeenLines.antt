-- A line of the code, without where its words lie in memory.
use Rattle.std.specs.Prelude.{Option, Some, None, Result, Ok, Err}
use Rattle.table_cli.specs.SavedLines as spec
use Rattle.table_cli.specs.declared.saved_line.Line.{Line}
use Rattle.table_cli.specs.declared.saved_line.Line.TheVariants.{Passed, Makes, Wrong}
use Rattle.table_cli.specs.declared.load_fault.LineFault.{LineFault}
use Rattle.table_cli.specs.declared.load_fault.LoadFault.{LoadFault}
use Rattle.table_cli.specs.declared.load_fault.LineFault.TheVariants.{NoTime, NoCommand, NoEntry, Answered, NoRoom, Cut, Miscounted, NoMemory}

abbrev pub seen_fault : LineFault → spec.Fault
seen_fault (NoTime word) = spec.NoTime word.now
seen_fault (NoCommand word) = spec.NoCommand word.now
seen_fault (NoEntry command) = spec.NoEntry command.now
seen_fault (Answered command said) = spec.Answered command.now said.items
seen_fault (NoRoom table) = spec.NoRoom table.now
seen_fault Cut = spec.Cut
seen_fault (Miscounted said found) = spec.Miscounted said found
seen_fault NoMemory = spec.NoMemory

abbrev pub seen_load : LoadFault → spec.FaultAt
seen_load found = record { line = found.line; fault = seen_fault found.fault }

-- why a file isn't whole, if it isn't
abbrev pub seen_ending : Result Unit LoadFault → Option spec.FaultAt
seen_ending (Ok done) = None
seen_ending (Err found) = Some (seen_load found)

abbrev pub seen : Line → spec.Line
seen Passed = spec.Passed
seen (Makes left table command) = spec.Makes left table.now command.now
seen (Wrong fault) = spec.Wrong (seen_fault fault)

-- what loading a line came to: no fault, or one
abbrev pub seen_end : Result Unit LineFault → Option spec.Fault
seen_end (Ok done) = None
seen_end (Err fault) = Some (seen_fault fault)
