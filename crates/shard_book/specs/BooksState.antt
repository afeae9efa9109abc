-- What the books of a table's shards are, and what a call of one of them does.
use Rattle.std.specs.Prelude.{◌≡◌, ℕ, ◌≤◌, true, is_some, List, Some, length, map, sum_by, slice_get, slice_set}
use Rattle.std.specs.List.{range_with_len}
use Rattle.stick_key.specs.Shard.{shard_size}
use Rattle.stick_model.specs.State.{State, key_of}
use Rattle.stick_model.specs.Limits.{IsTableSpec}
use Rattle.stick_model.specs.Refusals.{has_life}
use Rattle.stick_model.specs.declared.specification.Spec.{Spec}
use Rattle.stick_model.specs.declared.rows.Ticket.{Ticket}
use Rattle.stick_model.specs.declared.events.Event.{Event}
use Rattle.stick_model.specs.declared.replies.Reply.{Reply}
use Rattle.stick_model.specs.declared.replies.Refusal.{Refusal}
use Rattle.shard_book.specs.BookState.{BookState, IsBook, Extends, IsCallRefused, opened}
use Rattle.shard_book.specs.Keeping.{part_of}

-- what the whole table was made with, and the book of each shard, in order
pub record BooksState : Type 0 where
  pub spec : Spec
  pub books : List BookState

-- the books of empty shards
abbrev pub opened_books : Spec → ℕ → BooksState
opened_books spec shards = record { spec = spec; books = map (λ i. opened (part_of spec shards i)) (range_with_len 0 shards) }

-- what the shards are now
abbrev pub live_states : BooksState → List State
live_states table = map (λ (book : BookState). book.live) table.books

-- 1 to 64 shards, no more than the table has places, each of which is a book of a table with the shard's part of them
pub record AreBooks (table : BooksState) : Type 0 where
  pub limits : IsTableSpec table.spec
  pub some : 1 ≤ length table.books
  pub few : length table.books ≤ 64
  pub places : length table.books ≤ table.spec.size
  pub each : (i : ℕ) (book : BookState) → slice_get table.books i ≡ Some book → IsBook book × (book.live.spec ≡ part_of table.spec (length table.books) i)

-- the book of a shard answered the event and recorded the call with its seat; the others stay
pub record ExtendsAt (old : BooksState) (i seat : ℕ) (event : Event) (reply : Reply) (new : BooksState) : Type 0 where
  pub before : BookState
  pub after : BookState
  pub at : slice_get old.books i ≡ Some before
  pub extends : Extends before seat event reply after
  pub others : new ≡ record old { books = slice_set old.books i after }

-- of the state of shard `i`
abbrev pub At : List State → ℕ → (State → Type 0) → Type 0
At states i P = (live : State) × (slice_get states i ≡ Some live) × P live

-- what shard `i` is now
abbrev pub IsLiveAt : BooksState → ℕ → State → Type 0
IsLiveAt table i live = (book : BookState) × (slice_get table.books i ≡ Some book) × (live ≡ book.live)

-- why a shard may refuse an event: as its book does
abbrev pub IsRefusedAt : List State → ℕ → Event → Refusal → Type 0
IsRefusedAt states i event refusal = At states i (λ live. IsCallRefused live event refusal)

-- the shard has life left for an event
abbrev pub LivesAt : List State → ℕ → Event → Type 0
LivesAt states i event = At states i (λ live. has_life live event ≡ true)

-- a ticket of the shard is out
abbrev pub IsOutAt : List State → ℕ → Ticket → Type 0
IsOutAt states i ticket = At states i (λ live. is_some (key_of ticket live.tickets) ≡ true)

-- the sizes of a table's shards come to its size
abbrev pub SizesLaw : Type 0
SizesLaw = (size shards : ℕ) → 1 ≤ shards → sum_by (shard_size size shards) (range_with_len 0 shards) ≡ size
