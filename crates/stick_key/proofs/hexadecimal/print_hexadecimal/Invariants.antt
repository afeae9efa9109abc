use Rattle.std.proofs.Common.{◌≡◌, ◌++◌, drop}
use Rattle.stick_key.specs.Hexadecimal.{hexadecimal}
use Rattle.stick_key.proofs.hexadecimal.print_hexadecimal.Given as goal

-- What is written, and the bytes left, give the text.
abbrev pub invariant-loop-byte : goal.invariant-loop-byte
invariant-loop-byte l = l.text.items ++ hexadecimal (drop l.byte-index l.bytes) ≡ hexadecimal l.bytes
