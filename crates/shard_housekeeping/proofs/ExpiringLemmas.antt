-- What an expiry is answered.
use Rattle.std.proofs.Common.{◌≡◌, ℕ, refl, subst, true}
use Rattle.stick_model.specs.State.{State}
use Rattle.stick_model.specs.Step.{Outcome, Step}
use Rattle.stick_model.specs.declared.events.Event.TheVariants.{Expire}
use Rattle.stick_model.specs.declared.replies.Reply.{Reply}
use Rattle.shard_book.specs.SeatState.{SeatState}
use Rattle.shard_book.specs.Told.{Told}
use Rattle.shard_housekeeping.specs.Keeping.{is_of_expire}

expire_fits : (old : State) (now : ℕ) (reply : Reply) (new : State) → Step old (Expire now) reply new → is_of_expire reply ≡ true
expire_fits old now reply new step = subst (λ (o : Outcome). is_of_expire o.0 ≡ true) step.gives refl

-- a seat that has a shard expire is told how many entries went
pub told_count : (old new : SeatState) (shard now : ℕ) (reply : Reply) → Told old shard (Expire now) reply new → is_of_expire reply ≡ true
told_count old new shard now reply told = expire_fits told.before now reply told.after told.step
