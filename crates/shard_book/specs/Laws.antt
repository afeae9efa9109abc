-- Laws of books.
use Rattle.std.specs.Prelude.{◌≡◌, ◌≢◌, ℕ, List, [], ◌∷◌, ◌++◌}
use Rattle.stick_model.specs.State.{State}
use Rattle.stick_model.specs.Run.{StoredRun}
use Rattle.stick_model.specs.Refusals.{IsRefused}
use Rattle.stick_model.specs.declared.events.Event.{Event}
use Rattle.stick_model.specs.declared.replies.Reply.{Reply}
use Rattle.stick_model.specs.declared.replies.Refusal.{Refusal}
use Rattle.stick_model.specs.declared.replies.Refusal.TheVariants.{Memory}
use Rattle.shard_book.specs.declared.recorded.Recorded.{Recorded}
use Rattle.shard_book.specs.BookState.{BookState, IsBook, Extends, stored_of, recorded, told_to}

-- a book's record has one run from its base: its replies and the state after it are the book's
abbrev pub OneRecordLaw : Type 0
OneRecordLaw = (book : BookState) (is : IsBook book) (replies : List Reply) (new : State) → StoredRun book.base (stored_of book.calls) replies new →
    (replies ≡ is.replies) × (new ≡ book.live)

-- a recorded call that is made again, behind the calls before it, is refused for want of memory alone: no life ends under it
abbrev pub ReplayLaw : Type 0
ReplayLaw = (book : BookState) → IsBook book → (before : List Recorded) (call : Recorded) (later : List Recorded) (replies : List Reply) (middle : State) (refusal : Refusal) →
    book.calls ≡ before ++ call ∷ later → StoredRun book.base (stored_of before) replies middle → IsRefused middle call.stored.event refusal → refusal ≡ Memory

-- the seat was told the reply to its call behind all that it was told before, and no other seat was told anything
pub record TellsMore (old : BookState) (seat : ℕ) (event : Event) (reply : Reply) (new : BookState) (was : IsBook old) (is : IsBook new) : Type 0 where
  pub own : told_to seat new is ≡ told_to seat old was ++ record { call = recorded seat event reply; reply = reply } ∷ []
  pub others : (other : ℕ) → other ≢ seat → told_to other new is ≡ told_to other old was

-- a call that a book answered is the last that its seat was told
abbrev pub ToldLaw : Type 0
ToldLaw = (old : BookState) (seat : ℕ) (event : Event) (reply : Reply) (new : BookState) (was : IsBook old) (is : IsBook new) → Extends old seat event reply new →
    TellsMore old seat event reply new was is
