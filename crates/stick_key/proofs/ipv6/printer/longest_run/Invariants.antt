use Rattle.std.proofs.Common.{◌≡◌, ℕ, ◌<◌, ◌≤◌}
use Rattle.stick_key.specs.Ipv6Printed.{zeros_from}
use Rattle.stick_key.proofs.ipv6.printer.longest_run.Given as goal

-- The run at hand, and the longest one from here on, the first of equal ones.
abbrev pub invariant-loop-place : goal.invariant-loop-place
invariant-loop-place l = record {
  here : l.zeros ≡ zeros_from l.groups l.place;
  reached : zeros_from l.groups l.start ≡ l.length;
  most : (k : ℕ) → l.place ≤ k → k < 8 → zeros_from l.groups k ≤ l.length;
  first : (k : ℕ) → l.place ≤ k → k < l.start → zeros_from l.groups k < l.length;
  inside : l.start ≤ 8;
}
