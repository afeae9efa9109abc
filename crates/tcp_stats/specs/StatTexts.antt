-- The answer to show stat, of the rows that are asked for.
use Rattle.std.specs.Prelude.{ℕ, List, [], ◌∷◌, ◌++◌, codes, if◌then◌else◌}
use Rattle.std.specs.List.{flat_map}
use Rattle.tcp_stats.specs.CommandForms.{Query}
use Rattle.tcp_stats.specs.Stat.{column_names, row_text}
use Rattle.tcp_stats.specs.StatFields.{json_row, typed_row}
use Rattle.tcp_stats.specs.Messages.{message_text}
use Rattle.tcp_stats.specs.StatQueries.{may_name, shows}
use Rattle.tcp_stats.specs.declared.messages.StatsMessage.TheVariants.{NoSuchProxy}
use Rattle.tcp_stats.specs.declared.snapshot.Snapshot.{Snapshot}
use Rattle.tcp_stats.specs.declared.stat_row.StatRow.{StatRow}
use Rattle.tcp_stats.specs.declared.stat_row.StatRow.TheVariants.{Frontend, Server, Backend}
use Rattle.tcp_stats.specs.declared.typed.Format.{Format}
use Rattle.tcp_stats.specs.declared.typed.Format.TheVariants.{Plain, Typed, Json}

-- the rows, in their order
abbrev pub all_rows : List StatRow
all_rows = Frontend ∷ Server ∷ Backend ∷ []

-- a row, where it is asked for
abbrev pub plain_if : Snapshot → Query → StatRow → List ℕ
plain_if now query row = if shows query now.frontend.now row then row_text now row else []

abbrev pub typed_if : Snapshot → Query → StatRow → List ℕ
typed_if now query row = if shows query now.frontend.now row then typed_row now row else []

-- rows as JSON: behind the first one each stands behind a comma
abbrev pub json_rows : Snapshot → Query → List ℕ → List StatRow → List ℕ
json_rows now query mark [] = []
json_rows now query mark (row ∷ rows) = if shows query now.frontend.now row then mark ++ json_row now row ++ json_rows now query (codes ",") rows else json_rows now query mark rows

-- in columns: their names, the rows, and an empty line
abbrev pub plain_text : Snapshot → Query → List ℕ
plain_text now query = codes "# " ++ column_names ++ codes ",\n" ++ flat_map (plain_if now query) all_rows ++ codes "\n"

-- a line for each value, and an empty line
abbrev pub typed_text : Snapshot → Query → List ℕ
typed_text now query = flat_map (typed_if now query) all_rows ++ codes "\n"

-- an array of rows, each an array of values, and an empty line
abbrev pub json_text : Snapshot → Query → List ℕ
json_text now query = codes "[" ++ json_rows now query [] all_rows ++ codes "]\n\n"

abbrev pub text_in : Format → Snapshot → Query → List ℕ
text_in Plain now query = plain_text now query
text_in Typed now query = typed_text now query
text_in Json now query = json_text now query

-- the rows that are asked for, or that there is no such proxy
abbrev pub stat_text : Snapshot → Query → List ℕ
stat_text now query = if may_name query now.frontend.now then text_in query.format now query else message_text NoSuchProxy
