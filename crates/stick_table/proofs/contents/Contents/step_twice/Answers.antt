use Rattle.std.proofs.Common.{◌≡◌, ℕ, Result, Ok, Err, IfOk, OnOk, true}
use Rattle.stick_model.specs.State.{State}
use Rattle.stick_model.specs.Step.{Step, MayTrack, is_out, is_free_slot, after}
use Rattle.stick_model.specs.declared.events.Event.{Event}
use Rattle.stick_model.specs.declared.replies.Reply.{Reply}
use Rattle.stick_model.specs.declared.replies.Refusal.{Refusal}
use Rattle.stick_model.proofs.ReplyLemmas.{step_with_free}
use Rattle.stick_table.proofs.contents.Contents.step_twice.Goals as goal

steps : (old : State) (event : Event) (slot : ℕ) (result : Result (Reply × Reply) Refusal) (new : State) → (MayTrack old event → is_free_slot old slot ≡ true)
    → IfOk result (λ replies. after old event slot ≡ (replies.0, new)) → OnOk result (is_out old event ≡ true) → IfOk result (λ replies. Step old event replies.0 new)
steps old event slot (Ok replies) new free is out = step_with_free old event slot replies.0 new out is free
steps old event slot (Err refusal) new free is out = tt

pub returns-clause-ok : goal.returns-clause-ok
returns-clause-ok c = steps c.args.self.now c.args.event.now c.slot_for-slot.result c.step_with.result c.step_with.new.self c.slot_for-slot.ensures c.step_with.ensures.ok c.step_with.ensures.out
