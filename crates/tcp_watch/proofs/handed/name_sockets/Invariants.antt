use Rattle.std.proofs.Common.{◌≡◌, ◌≤◌, ◌+◌, ◌++◌}
use Rattle.tcp_watch.specs.Handed.{names_of, sockets_from}
use Rattle.tcp_watch.proofs.handed.name_sockets.Given as goal

-- those so far, and those of the names that are left, are all
abbrev pub invariant-loop-left : goal.invariant-loop-left
invariant-loop-left l = record {
  all : l.sockets ++ sockets_from l.number l.names l.left ≡ sockets_from 3 (names_of l.fn.names) l.fn.count;
  few : l.left ≤ l.fn.count;
  place : l.number + l.left ≡ 3 + l.fn.count;
}

abbrev pub decreases-loop-left : goal.decreases-loop-left
decreases-loop-left l = l.left
