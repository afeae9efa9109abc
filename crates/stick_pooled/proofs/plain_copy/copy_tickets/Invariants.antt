use Rattle.std.proofs.Common.{◌≡◌, ℕ, ◌++◌, map, drop, IsSome}
use Rattle.std.specs.List.{AllByRecursion}
use Rattle.stick_pooled.specs.Stock.{held_at}
use Rattle.stick_model.specs.declared.rows.Ticket.{Ticket}
use Rattle.stick_pooled.specs.Table.{with_key, tickets_of}
use Rattle.stick_pooled.proofs.plain_copy.copy_tickets.Given as goal

abbrev pub invariant-loop-ticket : goal.invariant-loop-ticket
invariant-loop-ticket l = record {
  tickets : l.tickets.items ++ map (with_key l.store) (drop l.ticket-index l.ticket-items) ≡ tickets_of l.store l.book;
  held : AllByRecursion (λ (ticket : Ticket × ℕ). IsSome (held_at l.store ticket.1)) (drop l.ticket-index l.ticket-items);
}
