-- A step, from what an event is answered.
use Rattle.std.proofs.Common.{◌≡◌, refl, subst, true, Option, Some, None, unwrap_or}
use Rattle.std.specs.Prelude.{IfSome}
use Rattle.std.specs.Option.{option_map_or}
use Rattle.stick_model.specs.State.{State}
use Rattle.stick_model.specs.Step.{Outcome, Step, MayTrack, after, is_free_slot, is_out, slot_of}
use Rattle.stick_model.specs.declared.events.Event.{Event}
use Rattle.stick_model.specs.declared.replies.Reply.{Reply}
use Rattle.stick_model.proofs.ReplyLemmas.{TellsSlot, slot_told}

-- the slot that a reply tells is free, and only a reference that is made tells one
pub step-answered : (old : State) (event : Event) (reply : Reply) (new : State) → is_out old event ≡ true → after old event (unwrap_or (slot_of reply) 0) ≡ (reply, new)
    → (MayTrack old event → option_map_or (is_free_slot old) (slot_of reply) true ≡ true) → Step old event reply new
step-answered old event reply new out gives free = record {
  out = out;
  gives = gives;
  free = given (slot_of reply) (subst (λ (o : Outcome). TellsSlot old event (unwrap_or (slot_of reply) 0) o) gives (slot_told old event (unwrap_or (slot_of reply) 0))) free;
}
  where
    given : (told : Option _) → IfSome told (λ slot. (slot ≡ unwrap_or (slot_of reply) 0) × MayTrack old event) → (MayTrack old event → option_map_or (is_free_slot old) told true ≡ true) → option_map_or (is_free_slot old) told true ≡ true
    given None tells free = refl
    given (Some slot) tells free = free tells.1
