-- What asking a book comes to.
use Rattle.std.proofs.Common.{ℕ, Result, Ok, Err}
use Rattle.std.specs.Prelude.{IfOk}
use Rattle.stick_model.specs.declared.events.Event.{Event}
use Rattle.stick_model.specs.declared.replies.Refusal.{Refusal}
use Rattle.stick_model.specs.declared.replies.Reply.{Reply}
use Rattle.shard_book.specs.BooksState.{AreBooks, BooksState, ExtendsAt}
use Rattle.shard_book.specs.declared.named.Named.{Named}
use Rattle.shard_port.specs.Books.{IsLegalStep, connections_seat}

-- what a book answers, it answers by a step from a legal state
pub legal : (result : Result Reply Refusal) (named : Named BooksState) (shard : ℕ) (event : Event) (after : BooksState) → IfOk result (λ reply. ExtendsAt named.keeper shard connections_seat event reply after) → AreBooks named.keeper
    → IfOk result (λ reply. IsLegalStep event reply)
legal (Ok reply) named shard event after extends are = record { before = extends.before.live; after = extends.after.live; legal = (are.each shard extends.before extends.at).0.live_legal; step = extends.extends.step }
legal (Err refusal) named shard event after extends are = tt
