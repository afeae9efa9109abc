-- What housekeeping does, as the seats of its tables are told, and what is counted of it.
use Rattle.std.specs.Prelude.{◌≡◌, ℕ, zero, suc, ◌+◌, ◌-◌, ◌*◌, ◌/◌, ◌<◌, ◌^◌, ◌⊎◌, min, max, Bool, true, false, Result, Ok, Err, List, Some, length, slice_get, slice_set}
use Rattle.std.specs.declared.alloc.AllocError.{AllocError}
use Rattle.stored_data.specs.Words.{width}
use Rattle.stick_model.specs.declared.specification.Spec.{Spec}
use Rattle.stick_model.specs.declared.events.Event.TheVariants.{Expire}
use Rattle.stick_model.specs.declared.replies.Reply.{Reply}
use Rattle.stick_model.specs.declared.replies.Reply.TheVariants.{Expired}
use Rattle.stick_model.specs.declared.replies.Refusal.{Refusal}
use Rattle.shard_book.specs.Told.{IsRefusedTo, Told}
use Rattle.shard_record.specs.Telling.{IsTold}
use Rattle.shard_locks.specs.Shared.{SharedSeatState}
use Rattle.shard_locks.specs.ShardsState.{ShardsState, book_of}
use Rattle.shard_housekeeping.specs.declared.counts.Counts.{Counts}
use Rattle.shard_housekeeping.specs.declared.kept.Kept.{Kept}

-- one more, and so many more, up to 2^64 - 1
abbrev pub more : ℕ → ℕ
more count = min (count + 1) (2 ^ 64 - 1)

abbrev pub more_by : ℕ → ℕ → ℕ
more_by added count = min (count + added) (2 ^ 64 - 1)

-- the seat of a table, what the clock is, and what was counted so far
pub record TableState (C : Type 0) : Type 0 where
  pub seat : SharedSeatState
  pub clock : C
  pub counts : Counts

-- the seats of all tables, and the same
pub record RoundState (C : Type 0) : Type 0 where
  pub seats : List SharedSeatState
  pub clock : C
  pub counts : Counts

abbrev pub none_counted : Counts
none_counted = record { rolled = 0; refused = 0; expired = 0 }

abbrev pub one_refused : Counts → Counts
one_refused counts = record counts { refused = more counts.refused }

-- so many entries more went as their time was over
abbrev pub with_expired : ℕ → Counts → Counts
with_expired count counts = record counts { expired = more_by count counts.expired }

-- the bytes of a shard's table, which takes those of its whole size as it is opened: of each entry 110, and eight for each word
abbrev pub table_bytes : Spec → ℕ
table_bytes spec = spec.size * (110 + 8 * width spec.columns)

-- the bytes that a call takes in its shard's record: 48 of its own, and of the entry that it changes, as that was before, 48 and
-- eight for each word
abbrev pub call_bytes : Spec → ℕ
call_bytes spec = 96 + 8 * width spec.columns

-- with how many calls a shard's record begins again: with so many, or with those for which an eighth of its table's bytes is room;
-- but not for fewer than 64
abbrev pub greatest_length : Spec → ℕ → ℕ
greatest_length spec roll_at = min roll_at (max (table_bytes spec / 8 / call_bytes spec) 64)

-- what a shard answered to a roll: whether its record began again, or that it was refused
abbrev pub noted : Result Bool AllocError → Counts → Counts
noted (Ok true) counts = record counts { rolled = more counts.rolled }
noted (Ok false) counts = counts
noted (Err refused) counts = one_refused counts

-- so many steps, one after another, each by its number from 0 on
abbrev pub ByFirst : {State : Type 0} → (ℕ → State → State → Type 0) → ℕ → State → State → Type 0
ByFirst step zero old new = new ≡ old
ByFirst {State} step (suc count) old new = (middle : State) × ByFirst step count old middle × step count middle new

-- what an expiry is answered
abbrev pub is_of_expire : Reply → Bool
is_of_expire (Expired count) = true
is_of_expire reply = false

-- a shard told the seat how many entries it has expired, as they were over at the moment, and the record of its book grew by just
-- that call; so many more are counted. By the step that the seat was told of, these are the records that there were before less
-- those that there are after. Or the shard refused to, which is counted
abbrev pub Expires : ℕ → ℕ → ℕ → SharedSeatState → Counts → SharedSeatState → Counts → Type 0
Expires book shard now old counted new counts =
    ((count : ℕ) × Told old.seat shard (Expire now) (Expired count) new.seat × IsTold book (Expire now) (Expired count) old.known new.known × (counts ≡ with_expired count counted))
    ⊎ ((refusal : Refusal) × IsRefusedTo old.seat shard (Expire now) refusal × (new ≡ old) × (counts ≡ one_refused counted))

-- a shard was asked to begin its record again, and what it answered is counted; where receipts are kept it doesn't
abbrev pub Rolls : Bool → Counts → Counts → Type 0
Rolls keep old new = (answer : Result Bool AllocError) × (keep ≡ true → answer ≡ Ok false) × (new ≡ noted answer old)

-- each shard of a table was asked so, in their order
abbrev pub RollsTable : ShardsState → Counts → Counts → Type 0
RollsTable table old new = ByFirst (λ shard. Rolls table.keep) table.shards old new

-- each shard of the table of a place was
abbrev pub RollsPlace : List ShardsState → ℕ → Counts → Counts → Type 0
RollsPlace tables place old new = (table : ShardsState) × (slice_get tables place ≡ Some table) × RollsTable table old new

-- each shard of each table was, in their order, and this was counted
abbrev pub RollsEach : List ShardsState → Counts → Type 0
RollsEach tables counts = ByFirst (RollsPlace tables) (length tables) none_counted counts

-- ---- by a clock, which in a state may show a moment in ms and leave another state

module _ {C : Type 0} (shows : C → ℕ → C → Type 0) where
  -- a shard expires at the moment that the clock shows then, and then its record may begin again
  abbrev pub KeepsShard : ShardsState → ℕ → TableState C → TableState C → Type 0
  KeepsShard table shard old new = (now : ℕ) × shows old.clock now new.clock × (now < 2 ^ 62) × (counted : Counts) × Expires (book_of table shard) shard now old.seat old.counts new.seat counted × Rolls table.keep counted new.counts

  -- each shard of a table, in their order
  abbrev pub KeepsTable : ShardsState → TableState C → TableState C → Type 0
  KeepsTable table old new = ByFirst (KeepsShard table) table.shards old new

  -- the table of a place, by the seat of that place
  pub record KeepsPlace (tables : List ShardsState) (place : ℕ) (old new : RoundState C) : Type 0 where
    pub table : ShardsState
    pub before : SharedSeatState
    pub after : SharedSeatState
    pub there : slice_get tables place ≡ Some table
    pub seat : slice_get old.seats place ≡ Some before
    pub kept : KeepsTable table (record { seat = before; clock = old.clock; counts = old.counts }) (record { seat = after; clock = new.clock; counts = new.counts })
    pub seats : new.seats ≡ slice_set old.seats place after

  -- one round: each table, in their order
  abbrev pub KeepsRound : List ShardsState → RoundState C → RoundState C → Type 0
  KeepsRound tables old new = ByFirst (KeepsPlace tables) (length tables) old new

  -- some number of rounds, from seats for which nothing was counted yet; the clock is looked at once for each shard, and
  -- at no other time
  pub record KeepsRounds {J : Type 0} (tables : List ShardsState) (seats : List SharedSeatState) (old : C) (kept : Kept J) (new : C) : Type 0 where
    pub count : ℕ
    pub rounds : kept.rounds ≡ min count (2 ^ 64 - 1)
    pub each : ByFirst (λ round. KeepsRound tables) count (record { seats = seats; clock = old; counts = none_counted }) (record { seats = kept.seats.items; clock = new; counts = record { rolled = kept.rolled; refused = kept.refused; expired = kept.expired } })
