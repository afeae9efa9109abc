use Rattle.std.proofs.Common.{rules}
use Rattle.tcp_flow.proofs.CarryLemmas.{written_more}
use Rattle.tcp_flow.proofs.flow.Flow.drain_all_now.Goals as goal

pub loop-self-preserved : goal.loop-self-preserved
loop-self-preserved g c = record {
  bytes = written_more _ _ _ _ _ _ _ _ c.loop-self.invariant.bytes c.in_default.ensures.ok;
  failures = search rules;
}
