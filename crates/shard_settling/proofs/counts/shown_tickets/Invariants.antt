use Rattle.std.proofs.Common.{◌≡◌, take}
use Rattle.shard_settling.specs.Settled.{shown}
use Rattle.shard_settling.proofs.counts.shown_tickets.Given as goal

abbrev pub invariant-loop-reference : goal.invariant-loop-reference
invariant-loop-reference g l = l.tickets.items ≡ shown l.shard (take l.reference-index l.refs)
