use Rattle.std.proofs.Common.{◌≡◌, ◌<◌, ◌≤◌, ℕ, length, get_or, None}
use Rattle.entry_pool.proofs.drop_places.Given as goal

abbrev pub invariant-loop-at : goal.invariant-loop-at
invariant-loop-at g l = record {
  same_block : (l.block.capacity ≡ l.initial.block.capacity) × (l.block.alloc ≡ l.initial.block.alloc);
  sized : length l.block.items ≡ length l.initial.block.items;
  before : (slot : ℕ) → slot < l.at → get_or l.block.items slot None ≡ None;
  behind : (slot : ℕ) → l.at ≤ slot → get_or l.block.items slot None ≡ get_or l.initial.block.items slot None;
}
