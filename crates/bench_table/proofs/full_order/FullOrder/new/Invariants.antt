use Rattle.bench_table.proofs.OrderLemmas.{IsFilled}
use Rattle.bench_table.proofs.full_order.FullOrder.new.Given as goal

abbrev pub invariant-loop-slot : goal.invariant-loop-slot
invariant-loop-slot l = IsFilled l.order 65536 l.slot
