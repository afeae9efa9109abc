-- What a seat of a table that threads share knows, and how a table's books and their records go together.
use Rattle.std.specs.Prelude.{◌≡◌, ℕ, ◌+◌, ◌<◌, ◌≤◌, ◌^◌, Some, List, [], ◌∷◌, ◌++◌, map}
use mathlib.Core.List.{IsPrefix}
use Rattle.stick_model.specs.Key.{Key}
use Rattle.stick_model.specs.State.{key_of}
use Rattle.stick_model.specs.declared.rows.Ticket.{Ticket}
use Rattle.stick_model.specs.declared.specification.Spec.{Spec}
use Rattle.stick_model.specs.declared.events.Event.{Event}
use Rattle.stick_model.specs.declared.replies.Reply.{Reply}
use Rattle.stick_model.specs.declared.replies.Reply.TheVariants.{Tracked}
use Rattle.shard_record.specs.declared.view.Call.{Call}
use Rattle.shard_record.specs.Calls.{call, calls_by, out}
use Rattle.shard_record.specs.Views.{View}
use Rattle.shard_record.specs.Telling.{IsReference, KeeperState, key_at, log_of, mine_of, number_of, ticket_at}
use Rattle.shard_book.specs.BookState.{BookState}
use Rattle.shard_book.specs.Keeping.{part_of}
use Rattle.shard_book.specs.Kept.{IsKept, IsMadeWith}
use Rattle.shard_book.specs.SeatState.{SeatState}
use Rattle.shard_locks.specs.ShardsState.{ShardsState, book_of}

-- what it has asked and seen, and what it knows of the record
pub record SharedSeatState : Type 0 where
  pub seat : SeatState
  pub known : View

abbrev pub seats_of : List SharedSeatState → List SeatState
seats_of seats = map (λ (shared : SharedSeatState). shared.seat) seats

-- the calls that a seat made, in the book's record as far as it knows that now: those that it had made, in their order, and then
-- this one; and no others under its number
abbrev pub HasMade : ℕ → Event → Reply → View → View → Type 0
HasMade book event reply old new = calls_by (number_of book old) (log_of book new) ≡ mine_of book old ++ call (number_of book old) event reply ∷ []

-- the calls of a shard's book, as far as a seat knows its record, are all those of one table, which was made with the shard's part of
-- the whole
abbrev pub IsOfShard : ShardsState → ℕ → View → Type 0
IsOfShard table shard known = IsMadeWith (part_of table.spec table.shards shard) (log_of (book_of table shard) known)

-- at some moment of these calls the ticket was out by the key
abbrev pub WasOut : List Call → Ticket → Key → Type 0
WasOut log ticket key = (before : List Call) × IsPrefix before log × (key_of ticket (out before) ≡ Some key)

-- as a reference's token knows the record, its ticket was out by its key
abbrev pub KnowsKey : ℕ → View → Type 0
KnowsKey book token = WasOut (log_of book token) (ticket_at book token) (key_at book token)

-- a token that came with a reply: where that tells a ticket, it is the token of a reference by that ticket, which knows its key
abbrev pub IsGiven : ℕ → Reply → View → Type 0
IsGiven book (Tracked ticket row) token = IsReference book token × (ticket ≡ ticket_at book token) × KnowsKey book token
IsGiven book reply token = Unit {0}

-- a table's books have the numbers from `first` on, in a record of so many
pub record AreNumbered (first shards books : ℕ) : Type 0 where
  pub within : first + shards ≤ books
  pub few : first + shards < 2 ^ 32

-- the record says of a table's books, by their numbers from `first` on, that each was made with its shard's part of the whole
pub record AreParts (specs : ℕ → Spec) (first : ℕ) (spec : Spec) (shards : ℕ) : Type 0 where
  pub each : (shard : ℕ) → shard < shards → specs (first + shard) ≡ part_of spec shards shard

-- each book and what keeps its record, made as the record says
abbrev pub AreKept : (ℕ → Spec) → List BookState → List KeeperState → Type 0
AreKept specs [] [] = Unit {0}
AreKept specs [] (keeper ∷ keepers) = ⊥
AreKept specs (book ∷ books) [] = ⊥
AreKept specs (book ∷ books) (keeper ∷ keepers) = IsKept (specs keeper.book) book keeper.log × AreKept specs books keepers
