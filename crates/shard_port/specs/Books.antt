-- The port of a table's books.
use Rattle.std.specs.Prelude.{◌≡◌, ◌⊎◌, ℕ, ◌≤◌, Bool, true, false, length}
use Rattle.stick_model.specs.Legal.{IsLegal}
use Rattle.stick_model.specs.Limits.{IsTableEvent}
use Rattle.stick_model.specs.State.{State}
use Rattle.stick_model.specs.Step.{Step}
use Rattle.stick_model.specs.declared.events.Event.{Event}
use Rattle.stick_model.specs.declared.replies.Refusal.{Refusal}
use Rattle.stick_model.specs.declared.replies.Refusal.TheVariants.{Stale}
use Rattle.stick_model.specs.declared.replies.Reply.{Reply}
use Rattle.stick_model.specs.declared.replies.Reply.TheVariants as replies
use Rattle.shard_book.specs.BooksState.{BooksState, ExtendsAt, IsRefusedAt, LivesAt, live_states}
use Rattle.shard_book.specs.NamedTables.{NamedState, state_of}
use Rattle.shard_book.specs.declared.named.Named.{Named}
use Rattle.shard_port.specs.Port.{Meaning}
use Rattle.shard_port.specs.declared.reference.Reference.{Reference}

-- a table's name, what it was made with, and the books of its shards
abbrev pub TableState : Type 0
TableState = NamedState BooksState

abbrev pub seen : Named BooksState → TableState
seen named = state_of (λ (table : BooksState). table.spec) (λ (table : BooksState). length table.books) (λ (table : BooksState). table) named

-- the seat for which connections are recorded
abbrev pub connections_seat : ℕ
connections_seat = 1

-- the event is one that a table takes, the shard has life left for it, its book answers it and records the call; all others stay
pub record BooksAnswer (old : TableState) (shard : ℕ) (event : Event) (reply : Reply) (new : TableState) : Type 0 where
  pub taken : IsTableEvent event
  pub after : BooksState
  pub lives : LivesAt (live_states old.state) shard event
  pub extends : ExtendsAt old.state shard connections_seat event reply after
  pub others : new ≡ record old { state = after }

-- there is no such shard, and then it is stale; or its book refuses it
abbrev pub BooksRefuse : TableState → ℕ → Event → Refusal → Type 0
BooksRefuse old shard event refusal = ((length old.state.books ≤ shard) × (refusal ≡ Stale)) ⊎ IsRefusedAt (live_states old.state) shard event refusal

abbrev pub books_meaning : Meaning TableState Reference
books_meaning = record {
  parts = λ table. length table.state.books;
  answers = BooksAnswer;
  refuses = BooksRefuse;
  made = λ shard ticket. record { shard = shard; ticket = ticket };
  shard_of = λ reference. reference.shard;
  ticket_of = λ reference. reference.ticket;
}

-- ---- replies

-- a step from a legal state gives this reply
pub record IsLegalStep (event : Event) (reply : Reply) : Type 0 where
  pub before : State
  pub after : State
  pub legal : IsLegal before
  pub step : Step before event reply after

-- what a Get is answered, what a look at a reference that is out, and what an act on the data of one
abbrev pub is_of_get : Reply → Bool
is_of_get (replies.Row row) = true
is_of_get replies.Absent = true
is_of_get reply = false

abbrev pub is_of_look : Reply → Bool
is_of_look (replies.Row row) = true
is_of_look reply = false

abbrev pub is_of_count : Reply → Bool
is_of_count (replies.Value value) = true
is_of_count reply = false
