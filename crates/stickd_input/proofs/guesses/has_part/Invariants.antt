use Rattle.std.proofs.Common.{◌≡◌, length}
use Rattle.std.specs.List.{list_any}
use Rattle.std.specs.Str.{bytes_eq}
use Rattle.base_lines.specs.Parts.{is_byte, parts}
use Rattle.stickd_input.proofs.guesses.has_part.Given as goal

-- no part so far is the act
abbrev pub invariant-loop-part : goal.invariant-loop-part
invariant-loop-part l = list_any (bytes_eq l.act) l.parts ≡ list_any (bytes_eq l.act) (parts (is_byte l.separator) l.word)

abbrev pub decreases-loop-part : goal.decreases-loop-part
decreases-loop-part l = length l.parts
