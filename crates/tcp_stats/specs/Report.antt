-- What the program says of itself in one line.
use Rattle.std.specs.Prelude.{ℕ, Bool, ◌||◌, nat_lt, List, [], ◌++◌, codes, decimal, if◌then◌else◌}
use Rattle.std.specs.List.{flat_map}
use Rattle.tcp_stats.specs.CountNames.{all_counts}
use Rattle.tcp_stats.specs.CountRows.{count_row, is_always_told}
use Rattle.tcp_stats.specs.CountValues.{count_of}
use Rattle.tcp_stats.specs.declared.count.Count.{Count}
use Rattle.tcp_stats.specs.declared.snapshot.Snapshot.{Snapshot}
use Rattle.tcp_stats.specs.declared.snapshot.TableFacts.{TableFacts}

-- whether a count of this number is told
abbrev pub is_told : Count → ℕ → Bool
is_told count number = is_always_told count || nat_lt 0 number

-- a count with its words, if it is told
unfoldable pub count_item : Snapshot → Count → List ℕ
count_item now count =
    if is_told count (count_of now.counts count) then codes ", " ++ decimal (count_of now.counts count) ++ codes " " ++ (count_row count).words else []

-- a number of a table with its words, if there is one
unfoldable pub table_part : ℕ → List ℕ → List ℕ
table_part number words = if nat_lt 0 number then codes ", " ++ decimal number ++ codes " " ++ words else []

-- ; NAME: U of S entries, R references out, P purged
unfoldable pub table_item : TableFacts → List ℕ
table_item table =
    codes "; " ++ table.name.now ++ codes ": " ++ decimal table.used ++ codes " of " ++ decimal table.size ++ codes " entries"
    ++ table_part table.references (codes "references out") ++ table_part table.purged (codes "purged")

-- that no new clients are taken
abbrev pub state_text : Bool → List ℕ
state_text is_draining = if is_draining then codes "draining, " else []

-- the connections that are open, and how many were at most
abbrev pub start_text : Snapshot → List ℕ
start_text now = state_text now.is_draining ++ decimal now.open ++ codes " open, " ++ decimal now.most ++ codes " at most"

-- all of it
abbrev pub report_text : Snapshot → List ℕ
report_text now = start_text now ++ flat_map (count_item now) all_counts ++ flat_map table_item now.tables.now
