-- The answer to show info: HAProxy's names, in its order, for what a TCP proxy without processes, pipes and a queue of tasks has.
use Rattle.std.specs.Prelude.{ℕ, ◌/◌, Bool, true, false, List, [], ◌∷◌, ◌++◌, codes}
use Rattle.std.specs.List.{flat_map}
use Rattle.tcp_stats.specs.CountValues.{count_of}
use Rattle.tcp_stats.specs.Values.{Shown, Number, Word, Span, value_text}
use Rattle.tcp_stats.specs.declared.count.Count.TheVariants.{Accepted, Admitted, BytesOut}
use Rattle.tcp_stats.specs.declared.snapshot.Snapshot.{Snapshot}
use Rattle.tcp_stats.specs.declared.info.Info.{Info}
use Rattle.tcp_stats.specs.declared.info.Info.TheVariants.{Name, Version, ReleaseDate, Nbthread, Nbproc, ProcessNum, Pid, Uptime, UptimeSec, Maxconn, HardMaxconn, CurrConns, CumConns, CumReq, Maxpipes, PipesUsed, PipesFree, ConnRate, ConnRateLimit, MaxConnRate, SessRate, SessRateLimit, MaxSessRate, Tasks, RunQueue, Node, Stopping, TotalBytesOut}

-- the lines, in order
abbrev pub all_info : List Info
all_info =
    Name ∷ Version ∷ ReleaseDate ∷ Nbthread ∷ Nbproc ∷ ProcessNum ∷ Pid ∷ Uptime ∷ UptimeSec ∷ Maxconn ∷ HardMaxconn ∷ CurrConns ∷ CumConns
    ∷ CumReq ∷ Maxpipes ∷ PipesUsed ∷ PipesFree ∷ ConnRate ∷ ConnRateLimit ∷ MaxConnRate ∷ SessRate ∷ SessRateLimit ∷ MaxSessRate ∷ Tasks ∷ RunQueue ∷ Node ∷ Stopping ∷ TotalBytesOut ∷ []

-- whole seconds since the start
abbrev pub uptime_seconds : Snapshot → ℕ
uptime_seconds now = now.uptime_ms / 1000

-- 1 or 0
abbrev pub as_number : Bool → ℕ
as_number true = 1
as_number false = 0

-- a line's name and value
pub record Line : Type 0 where
  pub name : List ℕ
  pub value : Shown

abbrev pub info : Snapshot → Info → Line
info now Name = record { name = codes "Name"; value = Word (codes "stickd") }
info now Version = record { name = codes "Version"; value = Word now.version.now }
info now ReleaseDate = record { name = codes "Release_date"; value = Word now.release_date.now }
info now Nbthread = record { name = codes "Nbthread"; value = Number now.threads }
info now Nbproc = record { name = codes "Nbproc"; value = Number 1 }
info now ProcessNum = record { name = codes "Process_num"; value = Number 1 }
info now Pid = record { name = codes "Pid"; value = Number now.pid }
info now Uptime = record { name = codes "Uptime"; value = Span (uptime_seconds now) }
info now UptimeSec = record { name = codes "Uptime_sec"; value = Number (uptime_seconds now) }
info now Maxconn = record { name = codes "Maxconn"; value = Number now.limit }
info now HardMaxconn = record { name = codes "Hard_maxconn"; value = Number now.limit }
info now CurrConns = record { name = codes "CurrConns"; value = Number now.open }
info now CumConns = record { name = codes "CumConns"; value = Number (count_of now.counts Accepted) }
info now CumReq = record { name = codes "CumReq"; value = Number (count_of now.counts Admitted) }
info now Maxpipes = record { name = codes "Maxpipes"; value = Number 0 }
info now PipesUsed = record { name = codes "PipesUsed"; value = Number 0 }
info now PipesFree = record { name = codes "PipesFree"; value = Number 0 }
info now ConnRate = record { name = codes "ConnRate"; value = Number now.connection_rate.last }
info now ConnRateLimit = record { name = codes "ConnRateLimit"; value = Number 0 }
info now MaxConnRate = record { name = codes "MaxConnRate"; value = Number now.connection_rate.most }
info now SessRate = record { name = codes "SessRate"; value = Number now.session_rate.last }
info now SessRateLimit = record { name = codes "SessRateLimit"; value = Number 0 }
info now MaxSessRate = record { name = codes "MaxSessRate"; value = Number now.session_rate.most }
info now Tasks = record { name = codes "Tasks"; value = Number now.open }
info now RunQueue = record { name = codes "Run_queue"; value = Number 0 }
info now Node = record { name = codes "node"; value = Word now.node.now }
info now Stopping = record { name = codes "Stopping"; value = Number (as_number now.is_draining) }
info now TotalBytesOut = record { name = codes "TotalBytesOut"; value = Number (count_of now.counts BytesOut) }

-- NAME: VALUE
unfoldable pub info_line : Snapshot → Info → List ℕ
info_line now line = (info now line).name ++ codes ": " ++ value_text (info now line).value ++ codes "\n"

-- the whole answer, which an empty line ends
abbrev pub info_text : Snapshot → List ℕ
info_text now = flat_map (info_line now) all_info ++ codes "\n"
