use Rattle.std.proofs.Common.{◌≡◌, ◌-◌}
use Rattle.tcp_flow.specs.FlowState.{HasWritten}
use Rattle.tcp_flow.proofs.flow.Flow.drain_all_now.Given as goal

-- what was written so far, and nothing failed
abbrev pub invariant-loop-self : goal.invariant-loop-self
invariant-loop-self g l = record {
  bytes : HasWritten g.W.ReadySink.tells (g.W.ReadySink.written l.fn.writer) (g.W.ReadySink.written l.writer) l.fn.self l.buffer l.self;
  failures : g.W.ReadySink.failures l.writer ≡ g.W.ReadySink.failures l.fn.writer;
}

abbrev pub decreases-loop-self : goal.decreases-loop-self
decreases-loop-self g l = l.self.end - l.self.start
