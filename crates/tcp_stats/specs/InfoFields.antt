-- The values of show info with all that HAProxy's typed and JSON outputs say of them.
use Rattle.std.specs.Prelude.{ℕ, ◌==◌, List, [], ◌∷◌, ◌++◌, codes, if◌then◌else◌}
use Rattle.std.specs.List.{flat_map}
use Rattle.tcp_stats.specs.Tags.{tags}
use Rattle.tcp_stats.specs.Typed.{Field, typed_line, json_rest}
use Rattle.tcp_stats.specs.Info.{all_info, info, info_text}
use Rattle.tcp_stats.specs.declared.snapshot.Snapshot.{Snapshot}
use Rattle.tcp_stats.specs.declared.tags.Tags.{Tags}
use Rattle.tcp_stats.specs.declared.tags.Origin.TheVariants as origins
use Rattle.tcp_stats.specs.declared.tags.Nature.TheVariants as natures
use Rattle.tcp_stats.specs.declared.tags.Scope.TheVariants as scopes
use Rattle.tcp_stats.specs.declared.typed.Format.{Format}
use Rattle.tcp_stats.specs.declared.typed.Format.TheVariants.{Plain, Typed, Json}
use Rattle.tcp_stats.specs.declared.info.Info.{Info}
use Rattle.tcp_stats.specs.declared.info.Info.TheVariants.{Name, Version, ReleaseDate, Nbthread, Nbproc, ProcessNum, Pid, Uptime, UptimeSec, Maxconn, HardMaxconn, CurrConns, CumConns, CumReq, Maxpipes, PipesUsed, PipesFree, ConnRate, ConnRateLimit, MaxConnRate, SessRate, SessRateLimit, MaxSessRate, Tasks, RunQueue, Node, Stopping, TotalBytesOut}

-- a line's place among HAProxy's, from 0 on
abbrev pub info_place : Info → ℕ
info_place Name = 0
info_place Version = 1
info_place ReleaseDate = 2
info_place Nbthread = 3
info_place Nbproc = 4
info_place ProcessNum = 5
info_place Pid = 6
info_place Uptime = 7
info_place UptimeSec = 8
info_place Maxconn = 15
info_place HardMaxconn = 16
info_place CurrConns = 17
info_place CumConns = 18
info_place CumReq = 19
info_place Maxpipes = 23
info_place PipesUsed = 24
info_place PipesFree = 25
info_place ConnRate = 26
info_place ConnRateLimit = 27
info_place MaxConnRate = 28
info_place SessRate = 29
info_place SessRateLimit = 30
info_place MaxSessRate = 31
info_place Tasks = 47
info_place RunQueue = 48
info_place Node = 50
info_place Stopping = 52
info_place TotalBytesOut = 61

-- HAProxy's tags of its value, but that the bytes out are a counter
abbrev pub info_tags : Info → Tags
info_tags Name = tags origins.Product natures.Output scopes.Service
info_tags Version = tags origins.Product natures.Output scopes.Service
info_tags ReleaseDate = tags origins.Product natures.Output scopes.Service
info_tags Nbthread = tags origins.Config natures.Gauge scopes.Service
info_tags Nbproc = tags origins.Config natures.Gauge scopes.Service
info_tags ProcessNum = tags origins.Key natures.Gauge scopes.Process
info_tags Pid = tags origins.Status natures.Gauge scopes.Process
info_tags Uptime = tags origins.Metric natures.Duration scopes.Process
info_tags UptimeSec = tags origins.Metric natures.Duration scopes.Process
info_tags Maxconn = tags origins.Config natures.Limit scopes.Process
info_tags HardMaxconn = tags origins.Config natures.Limit scopes.Process
info_tags CurrConns = tags origins.Metric natures.Gauge scopes.Process
info_tags CumConns = tags origins.Metric natures.Counter scopes.Process
info_tags CumReq = tags origins.Metric natures.Counter scopes.Process
info_tags Maxpipes = tags origins.Config natures.Limit scopes.Process
info_tags PipesUsed = tags origins.Metric natures.Gauge scopes.Process
info_tags PipesFree = tags origins.Metric natures.Gauge scopes.Process
info_tags ConnRate = tags origins.Metric natures.Rate scopes.Process
info_tags ConnRateLimit = tags origins.Config natures.Limit scopes.Process
info_tags MaxConnRate = tags origins.Metric natures.Max scopes.Process
info_tags SessRate = tags origins.Metric natures.Rate scopes.Process
info_tags SessRateLimit = tags origins.Config natures.Limit scopes.Process
info_tags MaxSessRate = tags origins.Metric natures.Rate scopes.Process
info_tags Tasks = tags origins.Metric natures.Gauge scopes.Process
info_tags RunQueue = tags origins.Metric natures.Gauge scopes.Process
info_tags Node = tags origins.Config natures.Output scopes.Service
info_tags Stopping = tags origins.Metric natures.Gauge scopes.Process
info_tags TotalBytesOut = tags origins.Metric natures.Counter scopes.Process

abbrev pub info_field : Snapshot → Info → Field
info_field now line = record { place = info_place line; name = (info now line).name; tags = info_tags line; value = (info now line).value }

abbrev pub typed_info : Snapshot → Info → List ℕ
typed_info now line = typed_line (info_field now line)

abbrev pub typed_text : Snapshot → List ℕ
typed_text now = flat_map (typed_info now) all_info ++ codes "\n"

-- an object, behind a comma where it isn't the first
unfoldable pub json_info : Snapshot → Info → List ℕ
json_info now line = (if info_place line == 0 then codes "{" else codes ",{") ++ json_rest (info_field now line)

abbrev pub json_text : Snapshot → List ℕ
json_text now = codes "[" ++ flat_map (json_info now) all_info ++ codes "]\n\n"

-- the whole answer in a format, which an empty line ends
abbrev pub text_in : Format → Snapshot → List ℕ
text_in Plain now = info_text now
text_in Typed now = typed_text now
text_in Json now = json_text now
