use Rattle.std.proofs.Common.{◌≡◌, ◌++◌, drop, take}
use Rattle.base_lines.specs.Parts.{first_part, is_byte}
use Rattle.stickd_ctl.specs.Lines.{behind}
use Rattle.stickd_ctl.proofs.lines.split_at_first.Given as goal

-- the byte doesn't stand in front
abbrev pub invariant-loop-place : goal.invariant-loop-place
invariant-loop-place l = record {
  first : take l.place l.text ++ first_part (is_byte l.separator) (drop l.place l.text) ≡ first_part (is_byte l.separator) l.text;
  rest : behind l.separator (drop l.place l.text) ≡ behind l.separator l.text;
}
