use Rattle.std.proofs.Common.{◌≡◌, Some, drop}
use Rattle.tcp_watch.specs.Pending.{hex_from, hex_number}
use Rattle.tcp_watch.proofs.pending.read_hex.Given as goal

-- the number, with the digits that are left, is that of all
abbrev pub invariant-loop-byte : goal.invariant-loop-byte
invariant-loop-byte l = hex_from (Some l.number) (drop l.byte-index l.text) ≡ hex_number l.text
