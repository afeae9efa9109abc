use Rattle.std.proofs.Common.{◌≡◌, drop}
use Rattle.base_lines.specs.Words.{words, after_blanks, is_blank}
use Rattle.base_lines.proofs.words.after_blanks.Given as goal

-- what stands in front are blanks
abbrev pub invariant-loop-place : goal.invariant-loop-place
invariant-loop-place l = record {
  words : words (is_blank l.blanks) (drop l.place l.bytes) ≡ words (is_blank l.blanks) l.bytes;
  from : after_blanks (is_blank l.blanks) (drop l.place l.bytes) ≡ after_blanks (is_blank l.blanks) l.bytes;
}
