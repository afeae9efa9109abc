use Rattle.std.proofs.Common.{◌+◌, sym, subst, arith}
use Rattle.bench_table.proofs.OrderLemmas.{IsFilled, empty_filled, filled_more, any_filled}
use Rattle.bench_table.proofs.full_order.FullOrder.new.Goals as goal

pub loop-slot-init : goal.loop-slot-init
loop-slot-init c = subst (λ order. IsFilled order 65536 0) (sym c.in_ok-order.ensures) (empty_filled 65536)

pub push_back-requires-clause-absent : goal.push_back-requires-clause-absent
push_back-requires-clause-absent c = λ there. let below = c.loop-slot.invariant.below c.loop-slot.slot there in omega arith

pub loop-slot-preserved : goal.loop-slot-preserved
loop-slot-preserved c =
    subst (λ order. IsFilled order 65536 (c.loop-slot.slot + 1)) (sym c.push_back.ensures) (filled_more c.loop-slot.order 65536 c.loop-slot.slot c.loop-slot.invariant)

pub invariant_of-result : goal.invariant_of-result
invariant_of-result c =
    let through = c.loop-slot-test.false in
    record {
      sized = c.loop-slot.invariant.sized;
      full = λ slot within. any_filled c.loop-slot.order 65536 c.loop-slot.slot slot c.loop-slot.invariant (omega arith);
    }
