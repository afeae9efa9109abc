-- A client that comes to a table in shards.
use Rattle.std.specs.Prelude.{◌≡◌, ◌⊎◌, ℕ, ◌-◌, ◌^◌, min, nat_le, Bool, true, false}
use Rattle.stick_model.specs.Key.{Key}
use Rattle.stick_model.specs.declared.rows.Row.{Row}
use Rattle.stick_model.specs.declared.events.Event.TheVariants.{Look}
use Rattle.stick_model.specs.declared.replies.Reply.TheVariants.{Row as ARow}
use Rattle.shard_record.specs.Calls.{passed_in}
use Rattle.shard_record.specs.Views.{View}
use Rattle.shard_record.specs.Telling.{IsTold, log_of}
use Rattle.shard_book.specs.SeatState.{RefState}
use Rattle.shard_locks.specs.Holding.{count_held}
use Rattle.shard_locks.specs.Shared.{WasOut}
use Rattle.shard_locks.specs.ShardsState.{ShardsState, book_of}

-- by what a seat knows, the ticket of the reference was out
abbrev pub IsKnownOut : ShardsState → View → RefState → Type 0
IsKnownOut table known reference = (key : Key) × WasOut (log_of (book_of table reference.shard) known) reference.ticket key

-- by what a seat knows, the reference is of a key, and had a look that shows at most `limit` references of that key
abbrev pub WasWithin : ShardsState → ℕ → RefState → View → Type 0
WasWithin table limit reference known = (key : Key) × WasOut (log_of (book_of table reference.shard) known) reference.ticket key
    × (passed_in key limit (log_of (book_of table reference.shard) known) (reference.ticket, key) ≡ true)

-- a reference is looked at, and is within the limit exactly if its row shows at most so many references; or the look is refused
abbrev pub IsJudged : ShardsState → ℕ → ℕ → RefState → View → Bool → View → Type 0
IsJudged table limit now reference old within new =
    ((row : Row) × IsTold (book_of table reference.shard) (Look now reference.ticket) (ARow row) old new × (within ≡ nat_le row.refs limit)) ⊎ ((within ≡ false) × (new ≡ old))

-- so many are admitted: as many as have references, up to what the count can tell
abbrev pub AreAdmitted : ShardsState → View → ℕ → Type 0
AreAdmitted table token admitted = admitted ≡ min (count_held table token) (2 ^ 32 - 1)
