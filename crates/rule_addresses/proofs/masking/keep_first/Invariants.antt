use Rattle.std.proofs.Common.{◌≡◌, ◌++◌, take, drop}
use Rattle.rule_addresses.specs.Prefix.{first_bits}
use Rattle.rule_addresses.proofs.masking.keep_first.Given as goal

-- What is done, and the first bits of what is left, are the first bits of all.
abbrev pub invariant-loop-byte : goal.invariant-loop-byte
invariant-loop-byte l = take l.byte-index l.bytes ++ first_bits l.left (drop l.byte-index l.bytes) ≡ first_bits l.count l.fn.bytes
