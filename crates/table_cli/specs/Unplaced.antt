-- What is told of entries that found their shards full.
use Rattle.std.specs.Prelude.{ℕ, ◌+◌, ◌==◌, Bool, false, List, fold, if◌then◌else◌}
use Rattle.std.specs.Str.{bytes_eq}
use Rattle.table_cli.specs.SavedLines.{Fault, NoRoom, FaultAt}
use Rattle.table_cli.specs.declared.unplaced.Unplaced.{Unplaced}

-- whether a fault is that an entry of this table found no place
abbrev pub lacks_room : List ℕ → Fault → Bool
lacks_room table (NoRoom name) = bytes_eq name table
lacks_room table _ = false

abbrev pub nothing : Unplaced
nothing = record { entries = 0; first = 0 }

-- one entry more, on this line
abbrev pub with_entry : Unplaced → ℕ → Unplaced
with_entry so_far line = record { entries = so_far.entries + 1; first = if so_far.entries == 0 then line else so_far.first }

abbrev pub with_fault : List ℕ → Unplaced → FaultAt → Unplaced
with_fault table so_far found = if lacks_room table found.fault then with_entry so_far found.line else so_far

-- how many entries of a table found no place, and the line of the first
abbrev pub unplaced : List ℕ → List FaultAt → Unplaced
unplaced table skipped = fold (with_fault table) nothing skipped
