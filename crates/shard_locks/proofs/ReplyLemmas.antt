-- What a caller knows of a reply.
use Rattle.std.proofs.Common.{◌≡◌, ℕ, true}
use Rattle.std.specs.Prelude.{Result, Ok, Err, IfOk}
use Rattle.stored_data.specs.declared.act.Act.{Act}
use Rattle.stick_model.specs.Key.{Key}
use Rattle.stick_model.specs.declared.rows.Ticket.{Ticket}
use Rattle.stick_model.specs.declared.events.Event.{Event}
use Rattle.stick_model.specs.declared.events.Event.TheVariants.{Count, Get, Look}
use Rattle.stick_model.specs.declared.replies.Reply.{Reply}
use Rattle.stick_model.specs.declared.replies.Refusal.{Refusal}
use Rattle.shard_book.specs.Keeping.{IsAnswer}
use Rattle.shard_book.specs.SeatState.{SeatState}
use Rattle.shard_book.specs.Told.{Told}
use Rattle.shard_port.specs.Books.{IsLegalStep, is_of_count, is_of_get, is_of_look}
use Rattle.shard_port.proofs.ReplyLemmas.{counted, got, looked}

-- what a seat was told is by a step from a legal state
legal_step : (old new : SeatState) (shard : ℕ) (event : Event) (reply : Reply) → Told old shard event reply new → IsLegalStep event reply
legal_step old new shard event reply told = record { before = told.before; after = told.after; legal = told.legal; step = told.step }

-- so a Get shows a row or that there is none, a look shows a row, and an act gives a value
pub told_got : (old new : SeatState) (shard now : ℕ) (key : Key) (reply : Reply) → Told old shard (Get now key) reply new → is_of_get reply ≡ true
told_got old new shard now key reply told = got now key reply (legal_step old new shard (Get now key) reply told)

pub told_shown : (old new : SeatState) (shard now : ℕ) (ticket : Ticket) (reply : Reply) → Told old shard (Look now ticket) reply new → is_of_look reply ≡ true
told_shown old new shard now ticket reply told = looked now ticket reply (legal_step old new shard (Look now ticket) reply told)

pub told_counted : (old new : SeatState) (shard now : ℕ) (ticket : Ticket) (act : Act) (reply : Reply) → Told old shard (Count now ticket act) reply new → is_of_count reply ≡ true
told_counted old new shard now ticket act reply told = counted now ticket act reply (legal_step old new shard (Count now ticket act) reply told)

-- what a seat was told is an answer that a table gives
pub told_answers : (old new : SeatState) (shard : ℕ) (event : Event) (result : Result Reply Refusal)
    → IfOk result (λ reply. Told old shard event reply new) → IfOk result (λ reply. IsAnswer event reply)
told_answers old new shard event (Ok reply) told = record { before = told.before; after = told.after; limits = told.limits; legal = told.legal; step = told.step }
told_answers old new shard event (Err refusal) told = tt
