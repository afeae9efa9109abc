use Rattle.std.proofs.Common.{◌≡◌, ◌≤◌, ◌-◌, length}
use Rattle.tcp_proxy.proofs.opening.draw_seeds.Given as goal

abbrev pub invariant-loop-drawn : goal.invariant-loop-drawn
invariant-loop-drawn g l = record {
  seeds : length l.seeds.items ≡ l.drawn;
  few : l.drawn ≤ l.count;
}

abbrev pub decreases-loop-drawn : goal.decreases-loop-drawn
decreases-loop-drawn g l = l.count - l.drawn
