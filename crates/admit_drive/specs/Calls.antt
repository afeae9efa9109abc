-- What a connection asks of a shard, and what a reply tells it.
use Rattle.std.specs.Prelude.{◌≡◌, ◌⊎◌, ℕ, Bool, true, false, Option, Some, None, List, slice_get, slice_set}
use Rattle.stick_key.specs.Shard.{shard}
use Rattle.stick_model.specs.State.{State}
use Rattle.stick_model.specs.Step.{is_out}
use Rattle.stick_model.specs.Limits.{IsTableEvent}
use Rattle.stick_model.specs.declared.rows.Ticket.{Ticket}
use Rattle.stick_model.specs.declared.events.Event.{Event}
use Rattle.stick_model.specs.declared.events.Event.TheVariants as events
use Rattle.stick_model.specs.declared.replies.Refusal.{Refusal}
use Rattle.stick_model.specs.declared.replies.Refusal.TheVariants.{Exhausted, Memory}
use Rattle.stick_model.specs.declared.replies.Reply.{Reply}
use Rattle.stick_model.specs.declared.replies.Reply.TheVariants as replies
use Rattle.shard_book.specs.BooksState.{BooksState, ExtendsAt, IsRefusedAt, LivesAt, live_states}
use Rattle.rule_eval.specs.declared.wants.Answer.TheVariants as answers
use Rattle.admit_core.specs.Connection.{Connection, gave, took}
use Rattle.admit_core.specs.Held.{held_at}
use Rattle.admit_core.specs.declared.held.Held.{Held}
use Rattle.admit_core.specs.declared.need.Need.{Need}
use Rattle.admit_core.specs.declared.need.Need.TheVariants.{Get, Track, Look, Count, Release}
use Rattle.admit_drive.specs.Tables.{TableState, shard_at}
use Rattle.admit_port.specs.Calls.{Call, answer_of}
use Rattle.shard_port.specs.Books.{connections_seat}
use Rattle.shard_port.specs.declared.reference.Reference.{Reference}

-- ---- calls

-- what is asked by the reference of a slot, if it holds one
abbrev pub call_by : (Ticket → Event) → Option (ℕ × Reference) → Option Call
call_by event None = None
call_by event (Some entry) = Some (record { table = entry.0; shard = entry.1.shard; event = event entry.1.ticket })

-- a key is asked of the shard that it lies on, and a reference of its own
abbrev pub call_of : ℕ → ℕ → Held Reference → Need → Option Call
call_of shards now held (Get table key) = Some (record { table = table; shard = shard key shards; event = events.Get now key })
call_of shards now held (Track slot table key) = Some (record { table = table; shard = shard key shards; event = events.Track now key })
call_of shards now held (Look slot) = call_by (λ ticket. events.Look now ticket) (held_at held slot)
call_of shards now held (Count slot act) = call_by (λ ticket. events.Count now ticket act) (held_at held slot)
call_of shards now held (Release slot) = call_by (λ ticket. events.Release now ticket) (held_at held slot)
call_of shards now held _ = None

-- the event is one that a table takes, the shard has life left for it, its book answers it and records the call; all others stay
pub record AnswersAt (old : List TableState) (call : Call) (reply : Reply) (new : List TableState) : Type 0 where
  pub taken : IsTableEvent call.event
  pub before : TableState
  pub after : BooksState
  pub at : slice_get old call.table ≡ Some before
  pub lives : LivesAt (live_states before.state) call.shard call.event
  pub extends : ExtendsAt before.state call.shard connections_seat call.event reply after
  pub others : new ≡ slice_set old call.table (record before { state = after })

-- the ticket that a call names, if it names one, is out
pub record IsOutNow (tables : List TableState) (call : Call) : Type 0 where
  pub live : State
  pub at : shard_at tables call.table call.shard ≡ Some live
  pub out : is_out live call.event ≡ true

-- the book of the shard refuses it: a growth was refused, or its life is over
pub record RefusesAt (old : List TableState) (call : Call) : Type 0 where
  pub before : TableState
  pub refusal : Refusal
  pub at : slice_get old call.table ≡ Some before
  pub refused : IsRefusedAt (live_states before.state) call.shard call.event refusal
  pub why : (refusal ≡ Memory) ⊎ (refusal ≡ Exhausted)

-- ---- replies

-- the reference that a shard made
abbrev pub reference_of : ℕ → Reply → Option Reference
reference_of shard (replies.Tracked ticket row) = Some (record { shard = shard; ticket = ticket })
reference_of shard _ = None

-- whether a reply is one that a need may be answered
abbrev pub fits : Need → Reply → Bool
fits (Get table key) (replies.Row row) = true
fits (Get table key) replies.Absent = true
fits (Track slot table key) (replies.Tracked ticket row) = true
fits (Track slot table key) replies.Full = true
fits (Track slot table key) replies.NoRefs = true
fits (Look slot) (replies.Row row) = true
fits (Count slot act) (replies.Value value) = true
fits (Release slot) replies.Released = true
fits wanted reply = false

-- what a shard's reply makes of the connection; a reference that is given back is handed out first
abbrev pub heard : Connection Reference → ℕ → Reply → Connection Reference
heard connection shard replies.Released = took (gave connection) answers.Released None
heard connection shard reply = took connection (answer_of reply) (reference_of shard reply)
