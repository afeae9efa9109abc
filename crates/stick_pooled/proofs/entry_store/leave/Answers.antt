use Rattle.std.proofs.Common.{sym, ap}
use Rattle.expiry_order.specs.Queue.{queue}
use Rattle.stick_pooled.proofs.QueueLemmas.{without_absent}
use Rattle.stick_pooled.proofs.entry_store.leave.Goals as goal

pub returns-else-refs-eq0 : goal.returns-else-refs-eq0
returns-else-refs-eq0 c = ap (queue c.args.order.now.capacity) (sym (without_absent c.args.order.now.slots c.args.slot (c.requires.outside c.if-refs-eq0.false)))
