-- How each count is told: in a metric and in a report. Counts of one kind share a metric, in which labels set them apart.
use Rattle.std.specs.Prelude.{ℕ, Bool, true, false, Option, Some, None, List, [], codes}
use Rattle.tcp_stats.specs.declared.count.Count.{Count}
use Rattle.tcp_stats.specs.declared.count.Count.TheVariants.{Accepted, Admitted, Rejected, NoDescriptors, NoMemory, Unaccepted, Headers, HeaderLate, HeaderWrong, HeaderEnded, HeaderUntrusted, ServerRefused, ServerTimedOut, NoPort, ServerFailed, ClientTimedOut, ServerSilent, FinTimedOut, Drained, Ended, BytesIn, BytesOut, UntrackedFull, UntrackedNoReferences, EventsNoMemory, EventsStale, EventsExhausted, Commands, Reloads, ReloadsRefused, Rolls, Expiries, Refusals}

-- the metric's name; what is said of it, at the first count of it; the count's labels; and its words behind its number in a report
pub record CountRow : Type 0 where
  pub metric : List ℕ
  pub help : Option (List ℕ)
  pub labels : List ℕ
  pub words : List ℕ

abbrev pub count_row : Count → CountRow
count_row Accepted = record { metric = codes "stickd_connections_accepted_total"; help = Some (codes "Clients whose connection was accepted."); labels = []; words = codes "accepted" }
count_row Admitted = record { metric = codes "stickd_connections_admitted_total"; help = Some (codes "Clients that the rules admitted."); labels = []; words = codes "admitted" }
count_row Rejected = record { metric = codes "stickd_connections_rejected_total"; help = Some (codes "Clients that were rejected."); labels = []; words = codes "rejected" }
count_row NoDescriptors = record { metric = codes "stickd_accept_failures_total"; help = Some (codes "Times that no client could be accepted."); labels = codes "{cause=\"descriptors\"}"; words = codes "not accepted for want of descriptors" }
count_row NoMemory = record { metric = codes "stickd_accept_failures_total"; help = None; labels = codes "{cause=\"memory\"}"; words = codes "not accepted for want of memory" }
count_row Unaccepted = record { metric = codes "stickd_accept_failures_total"; help = None; labels = codes "{cause=\"other\"}"; words = codes "failed to be accepted" }
count_row Headers = record { metric = codes "stickd_headers_total"; help = Some (codes "Clients judged by what a proxy's header tells."); labels = []; words = codes "told of by headers" }
count_row HeaderLate = record { metric = codes "stickd_header_failures_total"; help = Some (codes "Clients reset for want of a proxy's header."); labels = codes "{cause=\"late\"}"; words = codes "reset as their header was late" }
count_row HeaderWrong = record { metric = codes "stickd_header_failures_total"; help = None; labels = codes "{cause=\"wrong\"}"; words = codes "reset as they began by no header" }
count_row HeaderEnded = record { metric = codes "stickd_header_failures_total"; help = None; labels = codes "{cause=\"ended\"}"; words = codes "ended before their header was whole" }
count_row HeaderUntrusted = record { metric = codes "stickd_header_failures_total"; help = None; labels = codes "{cause=\"untrusted\"}"; words = codes "reset as no trusted proxy" }
count_row ServerRefused = record { metric = codes "stickd_connect_failures_total"; help = Some (codes "Connects to the server that failed."); labels = codes "{cause=\"refused\"}"; words = codes "refused by the server" }
count_row ServerTimedOut = record { metric = codes "stickd_connect_failures_total"; help = None; labels = codes "{cause=\"timeout\"}"; words = codes "timed out at the server" }
count_row NoPort = record { metric = codes "stickd_connect_failures_total"; help = None; labels = codes "{cause=\"no_port\"}"; words = codes "without a local port" }
count_row ServerFailed = record { metric = codes "stickd_connect_failures_total"; help = None; labels = codes "{cause=\"other\"}"; words = codes "failed at the server" }
count_row ClientTimedOut = record { metric = codes "stickd_timeouts_total"; help = Some (codes "Connections that ended as one was silent."); labels = codes "{timeout=\"client\"}"; words = codes "ended by a silent client" }
count_row ServerSilent = record { metric = codes "stickd_timeouts_total"; help = None; labels = codes "{timeout=\"server\"}"; words = codes "ended by a silent server" }
count_row FinTimedOut = record { metric = codes "stickd_timeouts_total"; help = None; labels = codes "{timeout=\"fin\"}"; words = codes "ended half closed" }
count_row Drained = record { metric = codes "stickd_connections_drained_total"; help = Some (codes "Connections closed at the end of a drain."); labels = []; words = codes "closed by the drain" }
count_row Ended = record { metric = codes "stickd_connections_ended_total"; help = Some (codes "Admitted connections that have ended."); labels = []; words = codes "ended" }
count_row BytesIn = record { metric = codes "stickd_bytes_total"; help = Some (codes "Bytes in from clients and out to them."); labels = codes "{direction=\"in\"}"; words = codes "bytes in" }
count_row BytesOut = record { metric = codes "stickd_bytes_total"; help = None; labels = codes "{direction=\"out\"}"; words = codes "bytes out" }
count_row UntrackedFull = record { metric = codes "stickd_untracked_total"; help = Some (codes "Times that a key was left untracked."); labels = codes "{cause=\"full\"}"; words = codes "not tracked as a table was full" }
count_row UntrackedNoReferences = record { metric = codes "stickd_untracked_total"; help = None; labels = codes "{cause=\"references\"}"; words = codes "not tracked for want of references" }
count_row EventsNoMemory = record { metric = codes "stickd_refused_events_total"; help = Some (codes "Events of connections that a table refused."); labels = codes "{cause=\"memory\"}"; words = codes "events refused for want of memory" }
count_row EventsStale = record { metric = codes "stickd_refused_events_total"; help = None; labels = codes "{cause=\"stale\"}"; words = codes "events refused as stale" }
count_row EventsExhausted = record { metric = codes "stickd_refused_events_total"; help = None; labels = codes "{cause=\"exhausted\"}"; words = codes "events refused at the end of a table's life" }
count_row Commands = record { metric = codes "stickd_commands_total"; help = Some (codes "Commands that were answered."); labels = []; words = codes "commands" }
count_row Reloads = record { metric = codes "stickd_reloads_total"; help = Some (codes "Times that the rules were to be read again."); labels = codes "{result=\"done\"}"; words = codes "reloads" }
count_row ReloadsRefused = record { metric = codes "stickd_reloads_total"; help = None; labels = codes "{result=\"refused\"}"; words = codes "reloads refused" }
count_row Rolls = record { metric = codes "stickd_rolls_total"; help = Some (codes "Times that a shard's record began again."); labels = []; words = codes "records begun again" }
count_row Expiries = record { metric = codes "stickd_expiries_total"; help = Some (codes "Entries removed as their time was over."); labels = []; words = codes "entries expired" }
count_row Refusals = record { metric = codes "stickd_housekeeping_refusals_total"; help = Some (codes "Rolls and expiries that were refused."); labels = []; words = codes "refusals of housekeeping" }

-- a report has these though there was none
abbrev pub is_always_told : Count → Bool
is_always_told Accepted = true
is_always_told Admitted = true
is_always_told Rejected = true
is_always_told _ = false

-- what goes wrong and an operator is to hear of; rejections where that is asked
abbrev pub is_trouble : Bool → Count → Bool
is_trouble tells_rejected Rejected = tells_rejected
is_trouble tells_rejected NoDescriptors = true
is_trouble tells_rejected NoMemory = true
is_trouble tells_rejected Unaccepted = true
is_trouble tells_rejected HeaderLate = true
is_trouble tells_rejected HeaderWrong = true
is_trouble tells_rejected HeaderEnded = true
is_trouble tells_rejected HeaderUntrusted = tells_rejected
is_trouble tells_rejected ServerRefused = true
is_trouble tells_rejected ServerTimedOut = true
is_trouble tells_rejected NoPort = true
is_trouble tells_rejected ServerFailed = true
is_trouble tells_rejected UntrackedFull = true
is_trouble tells_rejected UntrackedNoReferences = true
is_trouble tells_rejected EventsNoMemory = true
is_trouble tells_rejected EventsStale = true
is_trouble tells_rejected EventsExhausted = true
is_trouble tells_rejected Refusals = true
is_trouble tells_rejected _ = false
