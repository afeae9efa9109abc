-- What the system says of the process, by the names that Prometheus' client libraries give it.
use Rattle.std.specs.Prelude.{ℕ, ◌/◌, ◌%◌, Option, None, Some, List, [], ◌∷◌, ◌++◌, codes, decimal}
use Rattle.std.specs.List.{flat_map}
use Rattle.tcp_stats.specs.Metrics.{head_text}
use Rattle.tcp_stats.specs.declared.process.ProcessFacts.{ProcessFacts}
use Rattle.tcp_stats.specs.declared.process.ProcessReading.{ProcessReading}
use Rattle.tcp_stats.specs.declared.process.ProcessReading.TheVariants.{Cpu, MaxFds, OpenFds, Resident, Start, Virtual}

abbrev pub all_process_readings : List ProcessReading
all_process_readings = Cpu ∷ OpenFds ∷ MaxFds ∷ Virtual ∷ Resident ∷ Start ∷ []

-- a metric's name, what is said of it, and its type: what is used adds up, and all else is as it is
pub record ProcessRow : Type 0 where
  pub metric : List ℕ
  pub help : List ℕ
  pub kind : List ℕ

abbrev pub process_row : ProcessReading → ProcessRow
process_row Cpu = record { metric = codes "process_cpu_seconds_total"; help = codes "Total user and system CPU time spent in seconds."; kind = codes "counter" }
process_row OpenFds = record { metric = codes "process_open_fds"; help = codes "Number of open file descriptors."; kind = codes "gauge" }
process_row MaxFds = record { metric = codes "process_max_fds"; help = codes "Maximum number of open file descriptors."; kind = codes "gauge" }
process_row Virtual = record { metric = codes "process_virtual_memory_bytes"; help = codes "Virtual memory size in bytes."; kind = codes "gauge" }
process_row Resident = record { metric = codes "process_resident_memory_bytes"; help = codes "Resident memory size in bytes."; kind = codes "gauge" }
process_row Start = record { metric = codes "process_start_time_seconds"; help = codes "Start time of the process since unix epoch in seconds."; kind = codes "gauge" }

-- ms in seconds, with three digits after the point
unfoldable pub seconds_text : ℕ → List ℕ
seconds_text ms = decimal (ms / 1_000) ++ codes "." ++ decimal (ms / 100 % 10) ++ decimal (ms / 10 % 10) ++ decimal (ms % 10)

abbrev pub process_value : ProcessFacts → ProcessReading → Option ℕ
process_value facts Cpu = facts.cpu_ms
process_value facts OpenFds = facts.open_descriptors
process_value facts MaxFds = facts.most_descriptors
process_value facts Virtual = facts.virtual_bytes
process_value facts Resident = facts.resident_bytes
process_value facts Start = facts.started_ms

-- times are told in seconds, all else as it is
abbrev pub value_text : ProcessReading → ℕ → List ℕ
value_text Cpu value = seconds_text value
value_text Start value = seconds_text value
value_text _ value = decimal value

unfoldable pub told_text : ProcessReading → ℕ → List ℕ
told_text reading value =
    head_text (process_row reading).metric (process_row reading).help (process_row reading).kind
    ++ (process_row reading).metric ++ codes " " ++ value_text reading value ++ codes "\n"

-- what the system doesn't say is left out
abbrev pub told_if : ProcessReading → Option ℕ → List ℕ
told_if reading None = []
told_if reading (Some value) = told_text reading value

abbrev pub process_reading_text : ProcessFacts → ProcessReading → List ℕ
process_reading_text facts reading = told_if reading (process_value facts reading)

abbrev pub process_text : ProcessFacts → List ℕ
process_text facts = flat_map (process_reading_text facts) all_process_readings
