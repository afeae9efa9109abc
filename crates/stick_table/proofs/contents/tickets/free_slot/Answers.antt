use Rattle.std.proofs.Common.{arith}
use Rattle.stick_table.proofs.EntryLemmas.{pigeonhole}
use Rattle.stick_table.proofs.contents.tickets.free_slot.Goals as goal

pub returns : goal.returns
returns c = pigeonhole (λ held. held.0.slot) c.args.max_refs c.args.tickets.now (λ k h. c.loop-slot.invariant k (omega arith))
