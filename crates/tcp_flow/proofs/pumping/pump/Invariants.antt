use Rattle.std.proofs.Common.{◌≡◌}
use Rattle.tcp_flow.specs.FlowState.{Keeps}
use Rattle.tcp_flow.proofs.CarryLemmas.{Whole}
use Rattle.tcp_flow.proofs.pumping.pump.Given as goal

-- all that was read is written, and nothing failed
abbrev pub invariant-loop-turn : goal.invariant-loop-turn
invariant-loop-turn g l =
    let R = g.R.Source in
    let W = g.W.Sink in
    record {
      whole : Whole R.tells (R.left l.fn.reader) (R.left l.reader) W.tells (W.written l.fn.writer) (W.written l.writer) l.flow;
      empty : Keeps l.flow → ⊥;
      reads : l.flow.reads ≡ l._turn;
      reader : R.failures l.reader ≡ R.failures l.fn.reader;
      writer : W.failures l.writer ≡ W.failures l.fn.writer;
    }
