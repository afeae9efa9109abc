use Rattle.std.proofs.Common.{◌≡◌, ◌≤◌, ◌+◌, ◌++◌, ℕ, List, [], length}
use Rattle.byte_ports.specs.Bytes.{Grows}
use Rattle.base_lines.specs.Service.{Progress}
use Rattle.base_lines.proofs.feed.feed.Given as goal

-- from where a text stood, with the parts so far it stands further on
abbrev pub invariant-loop-part : goal.invariant-loop-part
invariant-loop-part g l =
    let L = g.L.LineServer in
    let W = g.W.Sink in
    record {
      going : (old : L.State) (whole output : List ℕ) (count : ℕ) → Progress L.says old whole [] l.fn.line count output (L.state l.fn.server) →
          (more : List ℕ) × Grows W.tells (W.written l.fn.writer) (W.written l.writer) more
          × Progress L.says old (whole ++ l.piece) l.parts l.line (count + l.served) (output ++ more) (L.state l.server);
      holds : L.holds (L.state l.server);
      bound : l.served + length l.parts ≤ length l.piece;
      failures : W.failures l.writer ≡ W.failures l.fn.writer;
    }

abbrev pub decreases-loop-part : goal.decreases-loop-part
decreases-loop-part g l = length l.parts
