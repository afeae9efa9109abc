use Rattle.std.proofs.Common.{rules}
use Rattle.std.proofs.lemmas.List.Sorted.{answers_always}
use Rattle.stick_model.specs.declared.rows.Ticket.{Ticket}
use Rattle.shard_settling.proofs.TicketLemmas.{rise_from_sorted}
use Rattle.shard_settling.proofs.tickets.sort.Goals as goal

pub returns-clause-rise : goal.returns-clause-rise
returns-clause-rise c = rise_from_sorted _ (c.sort_unstable_by_key.ensures.sorted (λ (t : Ticket). (t.number, t.slot)) (answers_always _ _ _ (λ f a r g h. search rules)))
