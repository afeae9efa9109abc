-- What is read of the program and of a table at one moment, each with its metric.
use Rattle.std.specs.Prelude.{ℕ, List, [], ◌∷◌, codes}
use Rattle.tcp_stats.specs.CountValues.{in_hand}
use Rattle.tcp_stats.specs.Info.{as_number, uptime_seconds}
use Rattle.tcp_stats.specs.declared.snapshot.Snapshot.{Snapshot}
use Rattle.tcp_stats.specs.declared.snapshot.TableFacts.{TableFacts}
use Rattle.tcp_stats.specs.declared.readings.Reading.{Reading}
use Rattle.tcp_stats.specs.declared.readings.Reading.TheVariants.{Open, Most, Limit, InHand, Threads, Draining, Uptime, RulesVersion}
use Rattle.tcp_stats.specs.declared.readings.TableReading.{TableReading}
use Rattle.tcp_stats.specs.declared.readings.TableReading.TheVariants.{Size, Used, References, Purged}

-- what is read of the program, in order
abbrev pub all_readings : List Reading
all_readings = Open ∷ Most ∷ Limit ∷ InHand ∷ Threads ∷ Draining ∷ Uptime ∷ RulesVersion ∷ []

-- a metric's name, and what is said of it
pub record Metric : Type 0 where
  pub metric : List ℕ
  pub help : List ℕ

abbrev pub reading_row : Reading → Metric
reading_row Open = record { metric = codes "stickd_connections"; help = codes "Connections that are open." }
reading_row Most = record { metric = codes "stickd_connections_peak"; help = codes "The most connections that were open at once." }
reading_row Limit = record { metric = codes "stickd_connections_limit"; help = codes "The most connections that may be open at once." }
reading_row InHand = record { metric = codes "stickd_connections_in_hand"; help = codes "Clients that were accepted and neither admitted nor rejected yet." }
reading_row Threads = record { metric = codes "stickd_threads"; help = codes "Threads that serve connections." }
reading_row Draining = record { metric = codes "stickd_draining"; help = codes "Whether no new clients are taken: 1, else 0." }
reading_row Uptime = record { metric = codes "stickd_uptime_seconds"; help = codes "Seconds since the start." }
reading_row RulesVersion = record { metric = codes "stickd_rules_version"; help = codes "The number of the rules' version, 1 at the start." }

abbrev pub reading_value : Snapshot → Reading → ℕ
reading_value now Open = now.open
reading_value now Most = now.most
reading_value now Limit = now.limit
reading_value now InHand = in_hand now.counts
reading_value now Threads = now.threads
reading_value now Draining = as_number now.is_draining
reading_value now Uptime = uptime_seconds now
reading_value now RulesVersion = now.rules_version

-- what is read of a table, in order
abbrev pub all_table_readings : List TableReading
all_table_readings = Size ∷ Used ∷ References ∷ Purged ∷ []

abbrev pub table_row : TableReading → Metric
table_row Size = record { metric = codes "stickd_table_size_entries"; help = codes "The entries that a table has room for." }
table_row Used = record { metric = codes "stickd_table_entries"; help = codes "The entries of a table." }
table_row References = record { metric = codes "stickd_table_references"; help = codes "The references to a table's entries that are out." }
table_row Purged = record { metric = codes "stickd_table_purged_entries_total"; help = codes "The entries that a table removed to make room for others." }

-- what is removed adds up, and all else goes up and down
abbrev pub table_kind : TableReading → List ℕ
table_kind Purged = codes "counter"
table_kind _ = codes "gauge"

abbrev pub table_value : TableFacts → TableReading → ℕ
table_value table Size = table.size
table_value table Used = table.used
table_value table References = table.references
table_value table Purged = table.purged
