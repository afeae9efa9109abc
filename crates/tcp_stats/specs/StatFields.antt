-- The values of show stat with all that HAProxy's typed and JSON outputs say of them.
use Rattle.std.specs.Prelude.{ℕ, Bool, true, false, not, ◌==◌, ◌||◌, List, [], ◌∷◌, ◌++◌, codes, decimal, if◌then◌else◌}
use Rattle.std.specs.List.{flat_map}
use Rattle.tcp_stats.specs.Values.{Shown, Nothing, Number, Word, Name, Span}
use Rattle.tcp_stats.specs.JsonParts.{part_text}
use Rattle.tcp_stats.specs.Tags.{tags}
use Rattle.tcp_stats.specs.Typed.{Field, typed_line, json_rest}
use Rattle.tcp_stats.specs.Stat.{service_number, stat_name, stat_value, valued_columns}
use Rattle.tcp_stats.specs.declared.snapshot.Snapshot.{Snapshot}
use Rattle.tcp_stats.specs.declared.json_part.JsonPart.TheVariants as parts
use Rattle.tcp_stats.specs.declared.tags.Tags.{Tags}
use Rattle.tcp_stats.specs.declared.tags.Origin.TheVariants as origins
use Rattle.tcp_stats.specs.declared.tags.Nature.{Nature}
use Rattle.tcp_stats.specs.declared.tags.Nature.TheVariants as natures
use Rattle.tcp_stats.specs.declared.tags.Scope.TheVariants as scopes
use Rattle.tcp_stats.specs.declared.column.Column.{Column}
use Rattle.tcp_stats.specs.declared.column.Column.TheVariants.{Pxname, Svname, Qcur, Qmax, Scur, Smax, Slim, Stot, Bin, Bout, Dreq, Dresp, Econ, Status, Weight, Act, Bck, Pid, Iid, Sid, Lbtot, Kind, Rate, RateLim, RateMax, Addr, Mode, ConnRate, ConnRateMax, ConnTot, Dcon, Dses, End}
use Rattle.tcp_stats.specs.declared.stat_row.StatRow.{StatRow}
use Rattle.tcp_stats.specs.declared.stat_row.StatRow.TheVariants.{Frontend, Server, Backend}

-- a column's place among HAProxy's, from 0 on
abbrev pub stat_place : Column → ℕ
stat_place Pxname = 0
stat_place Svname = 1
stat_place Qcur = 2
stat_place Qmax = 3
stat_place Scur = 4
stat_place Smax = 5
stat_place Slim = 6
stat_place Stot = 7
stat_place Bin = 8
stat_place Bout = 9
stat_place Dreq = 10
stat_place Dresp = 11
stat_place Econ = 13
stat_place Status = 17
stat_place Weight = 18
stat_place Act = 19
stat_place Bck = 20
stat_place Pid = 26
stat_place Iid = 27
stat_place Sid = 28
stat_place Lbtot = 30
stat_place Kind = 32
stat_place Rate = 33
stat_place RateLim = 34
stat_place RateMax = 35
stat_place Addr = 73
stat_place Mode = 75
stat_place ConnRate = 77
stat_place ConnRateMax = 78
stat_place ConnTot = 79
stat_place Dcon = 81
stat_place Dses = 82
stat_place End = 102

-- a row's letter and word
abbrev pub row_letter : StatRow → ℕ
row_letter Frontend = 70
row_letter Server = 83
row_letter Backend = 66

abbrev pub row_word : StatRow → List ℕ
row_word Frontend = codes "Frontend"
row_word Server = codes "Server"
row_word Backend = codes "Backend"

-- of counts of servers: the state of the one, and a gauge of all
abbrev pub server_tags : StatRow → Tags
server_tags Frontend = tags origins.Metric natures.Gauge scopes.Process
server_tags Server = tags origins.Status natures.Gauge scopes.Process
server_tags Backend = tags origins.Metric natures.Gauge scopes.Process

-- of rates: of all servers a gauge
abbrev pub rate_tags : Nature → StatRow → Tags
rate_tags nature Frontend = tags origins.Metric nature scopes.Process
rate_tags nature Server = tags origins.Metric nature scopes.Process
rate_tags nature Backend = tags origins.Metric natures.Gauge scopes.Process

-- HAProxy's tags of a column's values in a row
abbrev pub stat_tags : StatRow → Column → Tags
stat_tags row Pxname = tags origins.Key natures.Name scopes.Service
stat_tags row Svname = tags origins.Key natures.Name scopes.Service
stat_tags row Qcur = tags origins.Metric natures.Gauge scopes.Process
stat_tags row Qmax = tags origins.Metric natures.Max scopes.Process
stat_tags row Scur = tags origins.Metric natures.Gauge scopes.Process
stat_tags row Smax = tags origins.Metric natures.Max scopes.Process
stat_tags row Slim = tags origins.Config natures.Limit scopes.Process
stat_tags row Stot = tags origins.Metric natures.Counter scopes.Process
stat_tags row Bin = tags origins.Metric natures.Counter scopes.Process
stat_tags row Bout = tags origins.Metric natures.Counter scopes.Process
stat_tags row Dreq = tags origins.Metric natures.Counter scopes.Process
stat_tags row Dresp = tags origins.Metric natures.Counter scopes.Process
stat_tags row Econ = tags origins.Metric natures.Counter scopes.Process
stat_tags row Status = tags origins.Status natures.Gauge scopes.Process
stat_tags row Weight = tags origins.Metric natures.Average scopes.Process
stat_tags row Act = server_tags row
stat_tags row Bck = server_tags row
stat_tags row Pid = tags origins.Key natures.Gauge scopes.Process
stat_tags row Iid = tags origins.Key natures.Gauge scopes.Service
stat_tags row Sid = tags origins.Key natures.Gauge scopes.Service
stat_tags row Lbtot = tags origins.Metric natures.Counter scopes.Process
stat_tags row Kind = tags origins.Config natures.Gauge scopes.Service
stat_tags row Rate = rate_tags natures.Rate row
stat_tags row RateLim = tags origins.Config natures.Limit scopes.Process
stat_tags row RateMax = rate_tags natures.Max row
stat_tags row Addr = tags origins.Config natures.Gauge scopes.Service
stat_tags row Mode = tags origins.Config natures.Gauge scopes.Service
stat_tags row ConnRate = tags origins.Metric natures.Rate scopes.Process
stat_tags row ConnRateMax = tags origins.Metric natures.Max scopes.Process
stat_tags row ConnTot = tags origins.Metric natures.Counter scopes.Process
stat_tags row Dcon = tags origins.Metric natures.Counter scopes.Process
stat_tags row Dses = tags origins.Metric natures.Counter scopes.Process
stat_tags row End = tags origins.Config natures.Gauge scopes.Service

-- the mark where the columns of HAProxy's modules begin
abbrev pub is_mark : Column → Bool
is_mark Pxname = false
is_mark Svname = false
is_mark Qcur = false
is_mark Qmax = false
is_mark Scur = false
is_mark Smax = false
is_mark Slim = false
is_mark Stot = false
is_mark Bin = false
is_mark Bout = false
is_mark Dreq = false
is_mark Dresp = false
is_mark Econ = false
is_mark Status = false
is_mark Weight = false
is_mark Act = false
is_mark Bck = false
is_mark Pid = false
is_mark Iid = false
is_mark Sid = false
is_mark Lbtot = false
is_mark Kind = false
is_mark Rate = false
is_mark RateLim = false
is_mark RateMax = false
is_mark Addr = false
is_mark Mode = false
is_mark ConnRate = false
is_mark ConnRateMax = false
is_mark ConnTot = false
is_mark Dcon = false
is_mark Dses = false
is_mark End = true

abbrev pub is_nothing : Shown → Bool
is_nothing Nothing = true
is_nothing (Number number) = false
is_nothing (Word word) = false
is_nothing (Name name) = false
is_nothing (Span seconds) = false

-- whether a row has a value in a column
abbrev pub has_value : Snapshot → StatRow → Column → Bool
has_value now row column = not (is_mark column || is_nothing (stat_value now row column))

abbrev pub stat_field : Snapshot → StatRow → Column → Field
stat_field now row column = record { place = stat_place column; name = stat_name column; tags = stat_tags row column; value = stat_value now row column }

-- a line begins with the row's letter, the number of the proxy, which is 2, and that of the server
unfoldable pub typed_head : StatRow → List ℕ
typed_head row = row_letter row ∷ codes ".2." ++ decimal (service_number row) ++ codes "."

-- a line for a value, where there is one
unfoldable pub typed_field : Snapshot → StatRow → Column → List ℕ
typed_field now row column = if has_value now row column then typed_head row ++ typed_line (stat_field now row column) else []

abbrev pub typed_row : Snapshot → StatRow → List ℕ
typed_row now row = flat_map (typed_field now row) valued_columns

-- the same as an object, behind a comma where it isn't the first
unfoldable pub json_head : StatRow → Column → List ℕ
json_head row column = (if stat_place column == 0 then [] else codes ",") ++ part_text parts.Kind ++ row_word row ++ part_text parts.Proxy ++ decimal (service_number row) ++ codes ","

unfoldable pub json_field : Snapshot → StatRow → Column → List ℕ
json_field now row column = if has_value now row column then json_head row column ++ json_rest (stat_field now row column) else []

abbrev pub json_row : Snapshot → StatRow → List ℕ
json_row now row = codes "[" ++ flat_map (json_field now row) valued_columns ++ codes "]"
