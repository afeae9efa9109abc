use Rattle.std.proofs.Common.{◌≡◌, map, take}
use Rattle.stick_model.specs.Key.{Key}
use Rattle.stick_model.specs.declared.rows.Ticket.{Ticket}
use Rattle.shard_settling.proofs.found.tickets_alone.Given as goal

abbrev pub invariant-loop-one : goal.invariant-loop-one
invariant-loop-one l = l.tickets.items ≡ map (λ (one : Ticket × Key). one.0) (take l.one-index l.held)
