use Rattle.std.proofs.Common.{◌≡◌, ◌++◌, map, take}
use Rattle.stickd_ctl.specs.AddressSets.{safe_byte}
use Rattle.stickd_ctl.proofs.address_sets.push_safe.Given as goal

-- the bytes so far
abbrev pub invariant-loop-byte : goal.invariant-loop-byte
invariant-loop-byte l = l.text.items ≡ l.fn.text.items ++ map safe_byte (take l.byte-index l.table)
