use Rattle.std.proofs.Common.{◌≡◌, ◌+◌, ◌≤◌, length}
use Rattle.std.specs.Vec.{vec_capacity}
use Rattle.entry_pool.proofs.SoundLemmas.{IsCounting}
use Rattle.entry_pool.proofs.free_links.Given as goal

abbrev pub invariant-loop-next : goal.invariant-loop-next
invariant-loop-next l = record {
  long : length l.links.items + 1 ≡ l.next;
  counting : IsCounting l.links.items;
  room : l.capacity ≤ vec_capacity l.links;
}
