use Rattle.std.proofs.Common.{◌≡◌, ◌++◌, drop, take}
use Rattle.base_lines.specs.Parts.{first_part, other_parts, is_byte}
use Rattle.base_lines.proofs.parts.split_first.Given as goal

-- nothing parts what stands in front
abbrev pub invariant-loop-place : goal.invariant-loop-place
invariant-loop-place l = record {
  first : take l.place l.text ++ first_part (is_byte l.separator) (drop l.place l.text) ≡ first_part (is_byte l.separator) l.text;
  others : other_parts (is_byte l.separator) (drop l.place l.text) ≡ other_parts (is_byte l.separator) l.text;
}
