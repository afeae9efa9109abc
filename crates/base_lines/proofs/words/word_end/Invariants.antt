use Rattle.std.proofs.Common.{◌≡◌, ◌++◌, drop, take}
use Rattle.base_lines.specs.Parts.{first_part, other_parts}
use Rattle.base_lines.specs.Words.{is_blank, from_blank}
use Rattle.base_lines.proofs.words.word_end.Given as goal

-- what stands in front are no blanks
abbrev pub invariant-loop-place : goal.invariant-loop-place
invariant-loop-place l = record {
  first : take l.place l.bytes ++ first_part (is_blank l.blanks) (drop l.place l.bytes) ≡ first_part (is_blank l.blanks) l.bytes;
  rest : from_blank (is_blank l.blanks) (drop l.place l.bytes) ≡ from_blank (is_blank l.blanks) l.bytes;
  others : other_parts (is_blank l.blanks) (drop l.place l.bytes) ≡ other_parts (is_blank l.blanks) l.bytes;
}
