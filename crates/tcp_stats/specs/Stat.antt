-- The answer to show stat: HAProxy's columns in its order, and a row each for the listening side, the server, and all servers.
use Rattle.std.specs.Prelude.{ℕ, Bool, Option, Some, None, List, [], ◌∷◌, ◌++◌, codes, decimal, if◌then◌else◌}
use Rattle.std.specs.List.{flat_map, find}
use Rattle.std.specs.Str.{bytes_eq}
use Rattle.base_lines.specs.Parts.{parts, is_byte}
use Rattle.tcp_stats.specs.CountValues.{count_of, capped_sum}
use Rattle.tcp_stats.specs.Values.{Shown, Nothing, Number, Word, Name, value_text}
use Rattle.tcp_stats.specs.declared.count.Count.{Count}
use Rattle.tcp_stats.specs.declared.count.Count.TheVariants.{Accepted, Admitted, Rejected, ServerRefused, ServerTimedOut, NoPort, ServerFailed, BytesIn, BytesOut}
use Rattle.tcp_stats.specs.declared.snapshot.Snapshot.{Snapshot}
use Rattle.tcp_stats.specs.declared.column.Column.{Column}
use Rattle.tcp_stats.specs.declared.column.Column.TheVariants.{Pxname, Svname, Qcur, Qmax, Scur, Smax, Slim, Stot, Bin, Bout, Dreq, Dresp, Econ, Status, Weight, Act, Bck, Pid, Iid, Sid, Lbtot, Kind, Rate, RateLim, RateMax, Addr, Mode, ConnRate, ConnRateMax, ConnTot, Dcon, Dses, End}
use Rattle.tcp_stats.specs.declared.stat_row.StatRow.{StatRow}
use Rattle.tcp_stats.specs.declared.stat_row.StatRow.TheVariants.{Frontend, Server, Backend}

-- the names of all columns, with commas between
unfoldable pub column_names : List ℕ
column_names = codes "pxname,svname,qcur,qmax,scur,smax,slim,stot,bin,bout,dreq,dresp,ereq,econ,eresp,wretr,wredis,status,weight,act,bck,chkfail,chkdown,lastchg,downtime,qlimit,pid,iid,sid,throttle,lbtot,tracked,type,rate,rate_lim,rate_max,check_status,check_code,check_duration,hrsp_1xx,hrsp_2xx,hrsp_3xx,hrsp_4xx,hrsp_5xx,hrsp_other,hanafail,req_rate,req_rate_max,req_tot,cli_abrt,srv_abrt,comp_in,comp_out,comp_byp,comp_rsp,lastsess,last_chk,last_agt,qtime,ctime,rtime,ttime,agent_status,agent_code,agent_duration,check_desc,agent_desc,check_rise,check_fall,check_health,agent_rise,agent_fall,agent_health,addr,cookie,mode,algo,conn_rate,conn_rate_max,conn_tot,intercepted,dcon,dses,wrew,connect,reuse,cache_lookups,cache_hits,srv_icur,src_ilim,qtime_max,ctime_max,rtime_max,ttime_max,eint,idle_conn_cur,safe_conn_cur,used_conn_cur,need_conn_est,uweight,agg_server_status,agg_server_check_status,agg_check_status,-"

-- the columns that have a value in some row
abbrev pub valued_columns : List Column
valued_columns =
    Pxname ∷ Svname ∷ Qcur ∷ Qmax ∷ Scur ∷ Smax ∷ Slim ∷ Stot ∷ Bin ∷ Bout ∷ Dreq ∷ Dresp ∷ Econ ∷ Status ∷ Weight ∷ Act ∷ Bck ∷ Pid ∷ Iid ∷ Sid ∷ Lbtot ∷ Kind ∷ Rate ∷ RateLim ∷ RateMax ∷ Addr ∷ Mode ∷ ConnRate ∷ ConnRateMax ∷ ConnTot ∷ Dcon ∷ Dses ∷ End ∷ []

-- a value that the listening side alone has
abbrev pub at_frontend : StatRow → Shown → Shown
at_frontend Frontend value = value
at_frontend Server value = Nothing
at_frontend Backend value = Nothing

-- a value that the server alone has
abbrev pub at_server : StatRow → Shown → Shown
at_server Frontend value = Nothing
at_server Server value = value
at_server Backend value = Nothing

-- a value that the listening side has not
abbrev pub unless_frontend : StatRow → Shown → Shown
unless_frontend Frontend value = Nothing
unless_frontend Server value = value
unless_frontend Backend value = value

-- a value that the server has not
abbrev pub unless_server : StatRow → Shown → Shown
unless_server Frontend value = value
unless_server Server value = Nothing
unless_server Backend value = value

-- what a row is called: the server as in the configuration
abbrev pub row_name : Snapshot → StatRow → Shown
row_name now Frontend = Word (codes "FRONTEND")
row_name now Server = Name now.server_name.now
row_name now Backend = Word (codes "BACKEND")

-- whether clients are still taken; that nobody checks the server; that there is one
abbrev pub row_status : Bool → StatRow → Shown
row_status is_draining Frontend = Word (if is_draining then codes "STOP" else codes "OPEN")
row_status is_draining Server = Word (codes "no check")
row_status is_draining Backend = Word (codes "UP")

-- HAProxy's number for what kind a row is of
abbrev pub type_number : StatRow → ℕ
type_number Frontend = 0
type_number Server = 2
type_number Backend = 1

-- the number of the server among those of its proxy
abbrev pub service_number : StatRow → ℕ
service_number Frontend = 0
service_number Server = 1
service_number Backend = 0

-- a count, as a value
abbrev pub number : Snapshot → Count → Shown
number now count = Number (count_of now.counts count)

-- the connects to the server that failed, for whatever cause
abbrev pub failed_connects : Snapshot → ℕ
failed_connects now =
    capped_sum (capped_sum (count_of now.counts ServerRefused) (count_of now.counts ServerTimedOut)) (capped_sum (count_of now.counts NoPort) (count_of now.counts ServerFailed))

-- a column's name
abbrev pub stat_name : Column → List ℕ
stat_name Pxname = codes "pxname"
stat_name Svname = codes "svname"
stat_name Qcur = codes "qcur"
stat_name Qmax = codes "qmax"
stat_name Scur = codes "scur"
stat_name Smax = codes "smax"
stat_name Slim = codes "slim"
stat_name Stot = codes "stot"
stat_name Bin = codes "bin"
stat_name Bout = codes "bout"
stat_name Dreq = codes "dreq"
stat_name Dresp = codes "dresp"
stat_name Econ = codes "econ"
stat_name Status = codes "status"
stat_name Weight = codes "weight"
stat_name Act = codes "act"
stat_name Bck = codes "bck"
stat_name Pid = codes "pid"
stat_name Iid = codes "iid"
stat_name Sid = codes "sid"
stat_name Lbtot = codes "lbtot"
stat_name Kind = codes "type"
stat_name Rate = codes "rate"
stat_name RateLim = codes "rate_lim"
stat_name RateMax = codes "rate_max"
stat_name Addr = codes "addr"
stat_name Mode = codes "mode"
stat_name ConnRate = codes "conn_rate"
stat_name ConnRateMax = codes "conn_rate_max"
stat_name ConnTot = codes "conn_tot"
stat_name Dcon = codes "dcon"
stat_name Dses = codes "dses"
stat_name End = codes "-"

-- a column's value in a row
abbrev pub stat_value : Snapshot → StatRow → Column → Shown
stat_value now row Pxname = Name now.frontend.now
stat_value now row Svname = row_name now row
stat_value now row Qcur = unless_frontend row (Number 0)
stat_value now row Qmax = unless_frontend row (Number 0)
stat_value now row Scur = Number now.open
stat_value now row Smax = Number now.most
stat_value now row Slim = at_frontend row (Number now.limit)
stat_value now row Stot = number now Admitted
stat_value now row Bin = number now BytesIn
stat_value now row Bout = number now BytesOut
stat_value now row Dreq = unless_server row (Number 0)
stat_value now row Dresp = Number 0
stat_value now row Econ = unless_frontend row (Number (failed_connects now))
stat_value now row Status = row_status now.is_draining row
stat_value now row Weight = unless_frontend row (Number 1)
stat_value now row Act = unless_frontend row (Number 1)
stat_value now row Bck = unless_frontend row (Number 0)
stat_value now row Pid = Number 1
stat_value now row Iid = Number 2
stat_value now row Sid = Number (service_number row)
stat_value now row Lbtot = unless_frontend row (number now Admitted)
stat_value now row Kind = Number (type_number row)
stat_value now row Rate = Number now.session_rate.last
stat_value now row RateLim = at_frontend row (Number 0)
stat_value now row RateMax = Number now.session_rate.most
stat_value now row Addr = at_server row (Name now.server.now)
stat_value now row Mode = Word (codes "tcp")
stat_value now row ConnRate = at_frontend row (Number now.connection_rate.last)
stat_value now row ConnRateMax = at_frontend row (Number now.connection_rate.most)
stat_value now row ConnTot = at_frontend row (number now Accepted)
stat_value now row Dcon = at_frontend row (number now Rejected)
stat_value now row Dses = at_frontend row (Number 0)
stat_value now row End = Word (codes "-")

-- whether a column has this name
abbrev pub is_called : List ℕ → Column → Bool
is_called name column = bytes_eq (stat_name column) name

-- the value of a column of this name, or nothing
abbrev pub value_if : Snapshot → StatRow → Option Column → Shown
value_if now row None = Nothing
value_if now row (Some column) = stat_value now row column

-- what a row has under a column's name, and the comma behind it
unfoldable pub field_text : Snapshot → StatRow → List ℕ → List ℕ
field_text now row name = value_text (value_if now row (find (is_called name) valued_columns)) ++ codes ","

-- a row: a field for each column
unfoldable pub row_text : Snapshot → StatRow → List ℕ
row_text now row = flat_map (field_text now row) (parts (is_byte 44) column_names) ++ codes "\n"
