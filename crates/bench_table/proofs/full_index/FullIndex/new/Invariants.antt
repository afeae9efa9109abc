use Rattle.bench_table.proofs.IndexLemmas.{IsFilled}
use Rattle.bench_table.proofs.full_index.FullIndex.new.Given as goal

abbrev pub invariant-loop-slot : goal.invariant-loop-slot
invariant-loop-slot l = IsFilled l.index 65536 l.slot
