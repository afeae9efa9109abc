use Rattle.std.proofs.Common.{◌≡◌, ◌≤◌, ◌*◌, ℕ, List, [], length}
use Rattle.byte_ports.specs.Bytes.{Grows, Takes}
use Rattle.base_lines.specs.Service.{Progress}
use Rattle.base_lines.proofs.service.serve_lines.Given as goal

-- where the service of the text so far stands
abbrev pub invariant-loop-turn : goal.invariant-loop-turn
invariant-loop-turn g l =
    let L = g.L.LineServer in
    let R = g.R.Source in
    let W = g.W.Sink in
    record {
      stands : (whole output : List ℕ) × Takes R.tells (R.left l.fn.reader) (R.left l.reader) whole × Grows W.tells (W.written l.fn.writer) (W.written l.writer) output
          × Progress L.says (L.state l.fn.server) whole [] l.line l.done output (L.state l.server) × (l._turn ≤ length whole);
      holds : L.holds (L.state l.server);
      small : l.done ≤ 4096 * l._turn;
      reader : R.failures l.reader ≡ R.failures l.fn.reader;
      writer : W.failures l.writer ≡ W.failures l.fn.writer;
    }
