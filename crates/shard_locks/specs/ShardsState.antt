-- What a table in shards is to those who share it. What its books hold is known under their locks alone.
use Rattle.std.specs.Prelude.{◌≡◌, ℕ, ◌+◌, ◌≤◌, Bool, List, length, map, ◌⊎◌}
use Rattle.std.specs.List.{range_with_len}
use Rattle.stick_model.specs.Limits.{IsTableSpec}
use Rattle.stick_model.specs.declared.specification.Spec.{Spec}
use Rattle.stick_model.specs.declared.events.Event.{Event}
use Rattle.stick_model.specs.declared.replies.Refusal.{Refusal}
use Rattle.stick_model.specs.declared.replies.Refusal.TheVariants.{Stale}
use Rattle.shard_record.specs.Views.{View}
use Rattle.shard_record.specs.Telling.{KeeperState}
use Rattle.shard_book.specs.Keeping.{part_of}
use Rattle.shard_book.specs.BookState.{BookState}
use Rattle.shard_book.specs.SeatState.{SeatState, fresh}
use Rattle.shard_book.specs.Told.{IsRefusedTo}

-- what the whole table was made with, in how many shards, whether its seats keep receipts, and by which number the record has the
-- book of its first shard
pub record ShardsState : Type 0 where
  pub spec : Spec
  pub shards : ℕ
  pub keep : Bool
  pub first : ℕ

-- the number by which the record has the book of a shard
abbrev pub book_of : ShardsState → ℕ → ℕ
book_of table shard = table.first + shard

-- the same with its books and what keeps their records, out of their locks, and what each of its shards was made with
pub record UnlockedState : Type 0 where
  pub spec : Spec
  pub specs : List Spec
  pub keep : Bool
  pub first : ℕ
  pub books : List BookState
  pub keepers : List KeeperState

-- a table in shards, the seat that asks it, and what that knows of the record
pub record SeatedState : Type 0 where
  pub table : ShardsState
  pub seat : SeatState
  pub known : View

-- 1 to 64 shards, no more than the table has places; and what each is made with
pub record AreShards (spec : Spec) (shards : ℕ) (specs : List Spec) : Type 0 where
  pub limits : IsTableSpec spec
  pub some : 1 ≤ shards
  pub few : shards ≤ 64
  pub places : shards ≤ spec.size
  pub parts : specs ≡ map (part_of spec shards) (range_with_len 0 shards)

-- what each of its shards is made with
abbrev pub parts_of : ShardsState → List Spec
parts_of table = map (part_of table.spec table.shards) (range_with_len 0 table.shards)

-- a table out of its locks, and in them
abbrev pub IsUnlocked : ShardsState → UnlockedState → Type 0
IsUnlocked table unlocked = (unlocked.spec ≡ table.spec) × (unlocked.specs ≡ parts_of table) × (unlocked.keep ≡ table.keep) × (length unlocked.books ≡ table.shards) × (unlocked.first ≡ table.first)

-- an empty list has a place for each lock
pub record HasRoom (used capacity locks : ℕ) : Type 0 where
  pub empty : used ≡ 0
  pub places : locks ≤ capacity

-- seats with the numbers from 0 on
abbrev pub fresh_seats : ℕ → Bool → List SeatState
fresh_seats seats keeps = map (λ number. fresh number keeps) (range_with_len 0 seats)

-- why an event of a reference may be refused: its shard is none of these, and then as stale; or as its shard refuses the seat
abbrev pub IsReferenceRefused : ℕ → SeatState → ℕ → Event → Refusal → Type 0
IsReferenceRefused shards seat shard event refusal = ((shards ≤ shard) × (refusal ≡ Stale)) ⊎ IsRefusedTo seat shard event refusal
