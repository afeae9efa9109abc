use Rattle.std.proofs.Common.{sym, ◌∙◌}
use Rattle.stick_pooled.proofs.RecordLemmas.{first-some, front-alive}
use Rattle.stick_pooled.proofs.expiry.dead_front.Goals as goal

pub entry-requires : goal.entry-requires
entry-requires c = first-some c.args.store.now c.in_ok-slot.slot c.front.ensures.stock (sym c.front.ensures.first ∙ c.in_ok-slot.was)

pub returns-then-is_alive-clause-alive : goal.returns-then-is_alive-clause-alive
returns-then-is_alive-clause-alive c =
    front-alive c.args.store.now c.args.expire c.args.clock c.in_ok-slot.slot c.entry.result c.requires.rising (sym c.front.ensures.first ∙ c.in_ok-slot.was) c.entry.ensures (sym c.is_alive.ensures ∙ c.if-is_alive.true)
