-- What a worker counts of its connections.
use Rattle.std.specs.Prelude.{Bool, true, false, Option, Some, None}
use Rattle.tcp_stats.specs.CountValues.{with_more}
use Rattle.tcp_stats.specs.declared.count.Count.{Count}
use Rattle.tcp_stats.specs.declared.count.Count.TheVariants.{Accepted, Admitted, BytesIn, BytesOut, Ended, NoDescriptors, NoMemory, Rejected, Unaccepted}
use Rattle.tcp_stats.specs.declared.counts.Counts.{Counts}
use Rattle.tcp_relay.specs.Fates.{fate_of}
use Rattle.tcp_relay.specs.declared.accept_errors.AcceptFault.{AcceptFault}
use Rattle.tcp_relay.specs.declared.accept_errors.AcceptFault.TheVariants.{Gone, NoneWaits, Short, Unreadable}
use Rattle.tcp_relay.specs.declared.accept_errors.Shortage.{Shortage}
use Rattle.tcp_relay.specs.declared.accept_errors.Shortage.TheVariants.{Descriptors, Memory, Other}
use Rattle.tcp_relay.specs.declared.fates.Ending.{Ending}
use Rattle.tcp_relay.specs.declared.traffic.Traffic.{Traffic}

-- one more of a count
abbrev pub with_one : Count → Counts → Counts
with_one count counts = with_more counts count 1

-- one more, if there is a count to be raised
abbrev pub with_one_if : Option Count → Counts → Counts
with_one_if None counts = counts
with_one_if (Some count) counts = with_one count counts

-- what a verdict is counted as
abbrev pub verdict_of : Bool → Count
verdict_of true = Admitted
verdict_of false = Rejected

-- what a client that isn't accepted is counted as, by what the system was short of
abbrev pub missing : Shortage → Count
missing Descriptors = NoDescriptors
missing Memory = NoMemory
missing Other = Unaccepted

-- an error of accepting: one whose address can't be read was accepted and rejected; where none waits or it is gone, nothing is counted
abbrev pub with_fault : AcceptFault → Counts → Counts
with_fault NoneWaits counts = counts
with_fault Gone counts = counts
with_fault Unreadable counts = with_one Rejected (with_one Accepted counts)
with_fault (Short shortage) counts = with_one (missing shortage) counts

-- these bytes more have passed
abbrev pub with_traffic : Traffic → Counts → Counts
with_traffic more counts = with_more (with_more counts BytesIn more.bytes_in) BytesOut more.bytes_out

-- an admitted connection ends, of which these bytes aren't counted yet
abbrev pub with_end : Ending → Traffic → Counts → Counts
with_end ending left counts = with_traffic left (with_one Ended (with_one_if (fate_of ending) counts))
