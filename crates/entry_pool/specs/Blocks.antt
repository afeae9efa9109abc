-- What the functions on a `Block` do to it.
use Rattle.std.specs.Prelude.{ℕ, List, slice_set, Option, Some}
use Rattle.std.specs.Borrow.{Lends, Fml, RattleType, MutBor}
use Rattle.entry_pool.specs.declared.block.Block.{Block}
use Rattle.entry_pool.specs.contracts.block.Block.{the_row}

-- the block, with this at its places
abbrev pub with_items : {X : Type 0} → Block X → List (Option X) → Block X
with_items block xs = record { start = block.start; capacity = block.capacity; alloc = block.alloc; items = xs }

-- once the borrow r ends, the value at this place is the last one written through r
abbrev pub lends_item : (T : RattleType) → MutBor (Block T.Denot) → ℕ → MutBor T.Denot → Fml
lends_item T block at r = Lends (the_row T) T block r (λ w. with_items block.now (slice_set block.now.items at (Some w)))
