-- How an admitted connection ends, and what is counted of it.
use Rattle.std.specs.Prelude.{Option, Some, None}
use Rattle.tcp_link.specs.declared.connect_fault.ConnectFault.{ConnectFault}
use Rattle.tcp_link.specs.declared.connect_fault.ConnectFault.TheVariants as faults
use Rattle.tcp_link.specs.declared.lateness.Lateness.TheVariants as timeouts
use Rattle.tcp_stats.specs.declared.count.Count.{Count}
use Rattle.tcp_stats.specs.declared.count.Count.TheVariants as counts
use Rattle.tcp_relay.specs.declared.fates.Ending.{Ending}
use Rattle.tcp_relay.specs.declared.fates.Ending.TheVariants.{Drained, Late, Over, Unreached}

-- what is counted of an end beside that it came: which timeout was over, why the server wasn't reached, or that a drain closed it. Of a connection that is over, as both sides have ended or one has failed, nothing more is
abbrev pub fate_of : Ending → Option Count
fate_of Over = None
fate_of (Unreached faults.Refused) = Some counts.ServerRefused
fate_of (Unreached faults.TimedOut) = Some counts.ServerTimedOut
fate_of (Unreached faults.NoPort) = Some counts.NoPort
fate_of (Unreached faults.Other) = Some counts.ServerFailed
fate_of (Late timeouts.Connect) = Some counts.ServerTimedOut
fate_of (Late timeouts.Client) = Some counts.ClientTimedOut
fate_of (Late timeouts.Server) = Some counts.ServerSilent
fate_of (Late timeouts.Fin) = Some counts.FinTimedOut
fate_of Drained = Some counts.Drained

-- the end of a connection that is over: its server wasn't reached where a connect has failed
abbrev pub over_by : Option ConnectFault → Ending
over_by None = Over
over_by (Some fault) = Unreached fault
