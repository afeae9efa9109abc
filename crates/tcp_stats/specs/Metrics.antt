-- The metrics, in Prometheus' text format 0.0.4.
use Rattle.std.specs.Prelude.{ℕ, ◌==◌, Option, Some, None, List, [], ◌∷◌, ◌++◌, codes, decimal, if◌then◌else◌}
use Rattle.std.specs.List.{flat_map}
use Rattle.tcp_stats.specs.CountNames.{all_counts}
use Rattle.tcp_stats.specs.CountRows.{count_row}
use Rattle.tcp_stats.specs.CountValues.{count_of}
use Rattle.tcp_stats.specs.Readings.{all_readings, all_table_readings, reading_row, reading_value, table_kind, table_row, table_value}
use Rattle.tcp_stats.specs.declared.count.Count.{Count}
use Rattle.tcp_stats.specs.declared.snapshot.Snapshot.{Snapshot}
use Rattle.tcp_stats.specs.declared.snapshot.TableFacts.{TableFacts}
use Rattle.tcp_stats.specs.declared.readings.Reading.{Reading}
use Rattle.tcp_stats.specs.declared.readings.TableReading.{TableReading}

-- a byte of a label's value: a backslash, a quote and a line's end are escaped by a backslash
abbrev pub label_byte : ℕ → List ℕ
label_byte byte =
    if byte == 92 then codes "\\\\"
    else (if byte == 34 then codes "\\\""
    else (if byte == 10 then codes "\\n"
    else byte ∷ []))

abbrev pub label_text : List ℕ → List ℕ
label_text value = flat_map label_byte value

-- a line that says something of a metric
unfoldable pub comment_text : List ℕ → List ℕ → List ℕ → List ℕ
comment_text keyword name said = codes "# " ++ keyword ++ codes " " ++ name ++ codes " " ++ said ++ codes "\n"

-- what stands in front of a metric's samples: what it is, and its type
unfoldable pub head_text : List ℕ → List ℕ → List ℕ → List ℕ
head_text name help kind = comment_text (codes "HELP") name help ++ comment_text (codes "TYPE") name kind

-- a sample with one label
unfoldable pub labelled_text : List ℕ → List ℕ → List ℕ → ℕ → List ℕ
labelled_text name label value number = name ++ codes "{" ++ label ++ codes "=\"" ++ label_text value ++ codes "\"} " ++ decimal number ++ codes "\n"

-- a sample: the metric's name with its labels, and a value
unfoldable pub sample_text : List ℕ → List ℕ → ℕ → List ℕ
sample_text name labels value = name ++ labels ++ codes " " ++ decimal value ++ codes "\n"

-- the head of a count's metric, where something is said of it at this count
abbrev pub head_if : List ℕ → Option (List ℕ) → List ℕ
head_if name None = []
head_if name (Some help) = head_text name help (codes "counter")

-- a count
unfoldable pub counter_text : Snapshot → Count → List ℕ
counter_text now count = head_if (count_row count).metric (count_row count).help ++ sample_text (count_row count).metric (count_row count).labels (count_of now.counts count)

-- what is read of the program
unfoldable pub reading_text : Snapshot → Reading → List ℕ
reading_text now reading = head_text (reading_row reading).metric (reading_row reading).help (codes "gauge") ++ sample_text (reading_row reading).metric [] (reading_value now reading)

-- what is read of a table, with the table's name
unfoldable pub table_sample : TableReading → List ℕ → TableFacts → List ℕ
table_sample reading name table = labelled_text name (codes "table") table.name.now (table_value table reading)

-- the same of each table
unfoldable pub table_text : List TableFacts → TableReading → List ℕ
table_text tables reading =
    head_text (table_row reading).metric (table_row reading).help (table_kind reading) ++ flat_map (table_sample reading (table_row reading).metric) tables

-- which version runs
unfoldable pub build_text : List ℕ → List ℕ
build_text version =
    head_text (codes "stickd_build_info") (codes "The version that runs.") (codes "gauge") ++ labelled_text (codes "stickd_build_info") (codes "version") version 1

-- all of it
abbrev pub metrics_text : Snapshot → List ℕ
metrics_text now =
    build_text now.version.now ++ flat_map (reading_text now) all_readings ++ flat_map (counter_text now) all_counts ++ flat_map (table_text now.tables.now) all_table_readings
