use Rattle.std.proofs.Common.{◌≡◌, ◌≤◌, length}
use Rattle.tcp_watch.proofs.facts.count_each.Given as goal

-- the tables at the first places have been counted
abbrev pub invariant-loop-place : goal.invariant-loop-place
invariant-loop-place g l = record {
  each : length l.used.items ≡ l.place;
  tables : length l.tables ≡ length l.fn.tables;
  within : l.place ≤ length l.fn.tables;
  end : l.place-end ≡ length l.fn.tables;
}
