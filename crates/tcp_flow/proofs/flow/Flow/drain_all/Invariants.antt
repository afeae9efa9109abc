use Rattle.std.proofs.Common.{◌≡◌, ◌-◌}
use Rattle.tcp_flow.specs.FlowState.{HasWritten}
use Rattle.tcp_flow.proofs.flow.Flow.drain_all.Given as goal

-- what was written so far, and nothing failed
abbrev pub invariant-loop-self : goal.invariant-loop-self
invariant-loop-self g l = record {
  bytes : HasWritten g.W.Sink.tells (g.W.Sink.written l.fn.writer) (g.W.Sink.written l.writer) l.fn.self l.buffer l.self;
  failures : g.W.Sink.failures l.writer ≡ g.W.Sink.failures l.fn.writer;
}

abbrev pub decreases-loop-self : goal.decreases-loop-self
decreases-loop-self g l = l.self.end - l.self.start
