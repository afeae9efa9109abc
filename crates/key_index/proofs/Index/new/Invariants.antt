use Rattle.std.proofs.Common.{◌≡◌, ◌≤◌, replicate, None}
use Rattle.std.specs.Vec.{vec_capacity}
use Rattle.key_index.proofs.Index.new.Given as goal

abbrev pub invariant-loop-slot : goal.invariant-loop-slot
invariant-loop-slot l = record {
  items : l.nodes.items ≡ replicate l._slot None;
  room : l.capacity ≤ vec_capacity l.nodes;
}
