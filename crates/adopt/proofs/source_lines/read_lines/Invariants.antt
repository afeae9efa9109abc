use Rattle.std.proofs.Common.{◌≡◌, take}
use Rattle.adopt.specs.Lines.{own_raws, texts_of}
use Rattle.adopt.proofs.source_lines.read_lines.Given as goal

abbrev pub invariant-loop-raw : goal.invariant-loop-raw
invariant-loop-raw l = own_raws l.lines.items ≡ texts_of (take l.raw-index l.raw-items)
