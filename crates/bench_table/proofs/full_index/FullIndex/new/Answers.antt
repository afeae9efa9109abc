use Rattle.std.proofs.Common.{sym, subst}
use Rattle.bench_table.proofs.IndexLemmas.{IsFilled, none_filled}
use Rattle.bench_table.proofs.full_index.FullIndex.new.Goals as goal

pub loop-slot-init : goal.loop-slot-init
loop-slot-init c = subst (λ index. IsFilled index 65536 0) (sym c.in_ok-index.ensures) (none_filled 65536)
