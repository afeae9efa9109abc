use Rattle.std.proofs.Common.{◌≡◌, ◌≤◌, length, take}
use Rattle.stick_key.specs.Hexadecimal.{spelled}
use Rattle.stick_key.proofs.hexadecimal.spelled_bytes.Given as goal

-- The bytes so far are those that the digits spell, and there is room for all that are asked for.
abbrev pub invariant-loop-place : goal.invariant-loop-place
invariant-loop-place l = record {
  so_far : l.bytes.items ≡ take l.place (spelled l.digits);
  long : length l.bytes.items ≡ l.place;
  room : l.count ≤ l.bytes.capacity;
}
