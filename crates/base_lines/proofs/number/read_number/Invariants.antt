use Rattle.std.proofs.Common.{◌≡◌, ◌<◌, ◌^◌, drop, length}
use Rattle.std.specs.Str.{all_ascii_digits}
use Rattle.std.specs.Str.Parse.{digits_value, digits_value_after}
use Rattle.base_lines.proofs.number.read_number.Given as goal

-- digits stand in front, and the number is what they write
abbrev pub invariant-loop-byte : goal.invariant-loop-byte
invariant-loop-byte l = record {
  some : 0 < length l.text;
  digits : all_ascii_digits (drop l.byte-index l.text) ≡ all_ascii_digits l.text;
  fits : l.number < 2 ^ 64;
  value : digits_value_after 10 l.number (drop l.byte-index l.text) ≡ digits_value 10 l.text;
}
