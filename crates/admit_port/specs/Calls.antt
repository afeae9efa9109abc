-- What a connection asks of a port, and what a reply tells it.
use Rattle.std.specs.Prelude.{◌≡◌, ℕ, Option, Some, None, List, slice_get, slice_set}
use Rattle.stick_key.specs.Shard.{shard}
use Rattle.stick_model.specs.declared.rows.Ticket.{Ticket}
use Rattle.stick_model.specs.declared.events.Event.{Event}
use Rattle.stick_model.specs.declared.events.Event.TheVariants as events
use Rattle.stick_model.specs.declared.replies.Refusal.{Refusal}
use Rattle.stick_model.specs.declared.replies.Reply.{Reply}
use Rattle.stick_model.specs.declared.replies.Reply.TheVariants as replies
use Rattle.rule_eval.specs.declared.wants.Answer.{Answer}
use Rattle.rule_eval.specs.declared.wants.Answer.TheVariants as answers
use Rattle.admit_core.specs.Connection.{Connection, gave, took}
use Rattle.admit_core.specs.Held.{held_at}
use Rattle.admit_core.specs.declared.held.Held.{Held}
use Rattle.admit_core.specs.declared.need.Need.{Need}
use Rattle.admit_core.specs.declared.need.Need.TheVariants.{Get, Track, Look, Count, Release}
use Rattle.shard_port.specs.Port.{Meaning, came_with}

-- an event of one shard of one port
pub record Call : Type 0 where
  pub table : ℕ
  pub shard : ℕ
  pub event : Event

-- what a reply tells the rules
abbrev pub answer_of : Reply → Answer
answer_of replies.Absent = answers.Absent
answer_of (replies.Row row) = answers.Row row
answer_of (replies.Tracked ticket row) = answers.Tracked
answer_of (replies.Value value) = answers.Value value
answer_of replies.Released = answers.Released
answer_of _ = answers.Untracked

module _ {S R : Type 0} (m : Meaning S R) where
  -- ---- calls

  -- by the reference of a slot, of its own shard
  abbrev pub IsAskedBy : (Ticket → Event) → Option (ℕ × R) → Call → Type 0
  IsAskedBy event None call = ⊥
  IsAskedBy event (Some entry) call = call ≡ record { table = entry.0; shard = m.shard_of entry.1; event = event (m.ticket_of entry.1) }

  -- what is asked for a need: of the shard on which its key lies, or by the reference that its slot holds
  abbrev pub IsAskedFor : ℕ → ℕ → Held R → Need → Call → Type 0
  IsAskedFor shards now held (Get table key) call = call ≡ record { table = table; shard = shard key shards; event = events.Get now key }
  IsAskedFor shards now held (Track slot table key) call = call ≡ record { table = table; shard = shard key shards; event = events.Track now key }
  IsAskedFor shards now held (Look slot) call = IsAskedBy (λ ticket. events.Look now ticket) (held_at held slot) call
  IsAskedFor shards now held (Count slot act) call = IsAskedBy (λ ticket. events.Count now ticket act) (held_at held slot) call
  IsAskedFor shards now held (Release slot) call = IsAskedBy (λ ticket. events.Release now ticket) (held_at held slot) call
  IsAskedFor shards now held _ call = ⊥

  -- its port answers it; all other ports stay
  pub record AnswersAt (old : List S) (call : Call) (reply : Reply) (new : List S) : Type 0 where
    pub before : S
    pub after : S
    pub at : slice_get old call.table ≡ Some before
    pub answers : m.answers before call.shard call.event reply after
    pub others : new ≡ slice_set old call.table after

  -- its port refuses it
  pub record RefusedAt (ports : List S) (call : Call) : Type 0 where
    pub port : S
    pub refusal : Refusal
    pub at : slice_get ports call.table ≡ Some port
    pub refused : m.refuses port call.shard call.event refusal

  -- ---- replies

  -- what a shard's reply makes of the connection; a reference that is given back is handed out first
  abbrev pub heard : Connection R → ℕ → Reply → Connection R
  heard connection at replies.Released = took (gave connection) answers.Released None
  heard connection at reply = took connection (answer_of reply) (came_with m at reply)
