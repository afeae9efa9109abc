use Rattle.std.proofs.Common.{◌≡◌, drop}
use Rattle.adopt.specs.Report.{has_words}
use Rattle.adopt.proofs.report.has_words.Given as goal

-- only blanks so far
abbrev pub invariant-loop-byte : goal.invariant-loop-byte
invariant-loop-byte l = has_words (drop l.byte-index l.raw) ≡ has_words l.raw
