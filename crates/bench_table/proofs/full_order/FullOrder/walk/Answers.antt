use Rattle.bench_table.proofs.OrderLemmas.{contains_from}
use Rattle.bench_table.proofs.full_order.FullOrder.walk.Goals as goal

pub after-at-requires : goal.after-at-requires
after-at-requires c = contains_from _ c.in-Some.slot (c.args.self.now.full c.in-Some.slot c.if-slot-lt-SLOTS.true)
