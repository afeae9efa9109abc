use Rattle.std.proofs.Common.{ap}
use Rattle.expiry_order.specs.Queue.{Queue}
use Rattle.bench_table.proofs.OrderLemmas.{contains_from, absent_without, moved_any}
use Rattle.bench_table.proofs.full_order.FullOrder.refresh.Goals as goal

pub remove-requires : goal.remove-requires
remove-requires c = contains_from _ c.args.slot (c.args.self.now.full c.args.slot c.requires)

pub push_back-requires-clause-absent : goal.push_back-requires-clause-absent
push_back-requires-clause-absent c = rw c.remove.ensures (absent_without c.args.self.now.order.slots c.args.slot)

pub invariant_of-self : goal.invariant_of-self
invariant_of-self c =
    let order = c.args.self.now.order in
    let removed = ap (λ (q : Queue). q.slots) c.remove.ensures in
    rw (c.push_back.ensures, c.remove.ensures) (record {
      sized = c.args.self.now.sized;
      full = λ slot within. moved_any order.slots c.args.slot slot (c.args.self.now.full slot within);
    })
