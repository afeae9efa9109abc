use Rattle.std.proofs.Common.{◌≡◌, ◌≤◌, ◌+◌, ◌*◌, [], length}
use Rattle.tcp_flow.specs.FlowState.{Keeps}
use Rattle.tcp_flow.specs.Passage.{HasMoved, passage}
use Rattle.tcp_flow.proofs.carries.carry_now.Given as goal

-- all that was read is written, and nothing failed
abbrev pub invariant-loop-read : goal.invariant-loop-read
invariant-loop-read g l =
    let R = g.R.ReadySource in
    let W = g.W.ReadySink in
    record {
      moved : HasMoved R.tells (R.left l.fn.reader) (R.left l.reader) W.tells (W.written l.fn.writer) (W.written l.writer) (passage l.fn.flow []) (passage l.flow []);
      empty : Keeps l.flow → ⊥;
      reader : R.failures l.reader ≡ R.failures l.fn.reader;
      writer : W.failures l.writer ≡ W.failures l.fn.writer;
      most : l.flow.read ≤ l.fn.flow.read + l._read * length l.buffer;
      least : l.fn.flow.read + l._read ≤ l.flow.read;
    }
