use Rattle.std.proofs.Common.{◌≡◌, ◌++◌, take}
use Rattle.std.specs.List.{flat_map}
use Rattle.stickd_ctl.specs.Csv.{doubled_byte}
use Rattle.stickd_ctl.proofs.csv_text.push_body.Given as goal

-- the bytes so far
abbrev pub invariant-loop-byte : goal.invariant-loop-byte
invariant-loop-byte l = l.text.items ≡ l.fn.text.items ++ flat_map doubled_byte (take l.byte-index l.bytes)
