-- Which events leave a table's references.
use Rattle.std.proofs.Common.{◌≡◌, ℕ, refl, sym, subst, Ok}
use Rattle.stick_key.specs.declared.kind.KeyType.{KeyType}
use Rattle.stick_model.specs.State.{State}
use Rattle.stick_model.specs.Step.{Step}
use Rattle.stick_model.specs.declared.events.Event.{Event}
use Rattle.stick_model.specs.declared.events.Event.TheVariants.{Track, Release}
use Rattle.stick_model.specs.declared.replies.Reply.{Reply}
use Rattle.stick_model.proofs.StepCases.{Happens, idles, tracks, counts, releases, writes, removes, clears, happened}
use Rattle.table_texts.specs.Form.{Request, Everything, OneKey, Compare, Show, Clear, Set}
use Rattle.table_texts.specs.Request.{Asks}

-- the event makes no reference, and gives none back
abbrev pub LeavesReferences : Event → Type 0
LeavesReferences (Track now key) = ⊥
LeavesReferences (Release now ticket) = ⊥
LeavesReferences event = Unit {0}

-- then the same are out
pub step_keeps : (old : State) (event : Event) (reply : Reply) (new : State) → LeavesReferences event → Step old event reply new → new.tickets ≡ old.tickets
step_keeps old event reply new leaves step = kept (happened old event reply new step) leaves
  where
    kept : {slot : ℕ} {event : Event} {reply : Reply} {new : State} → Happens old slot event reply new → LeavesReferences event → new.tickets ≡ old.tickets
    kept (idles event reply quiet idle) leaves = refl
    kept (tracks now key records room) leaves = absurd leaves
    kept (counts now ticket act key out) leaves = refl
    kept (releases now ticket key out) leaves = absurd leaves
    kept (writes now key pairs created records room) leaves = refl
    kept (removes now key free) leaves = refl
    kept (clears now choice) leaves = refl

-- the event of a command makes no reference, and gives none back
pub asks_leaves : (kind : KeyType) (moment : ℕ) (request : Request) (event : Event) → Asks kind moment request (Ok event) → LeavesReferences event
asks_leaves kind moment (Show choice) event asks = subst LeavesReferences (sym asks.2) tt
asks_leaves kind moment (Clear (OneKey text)) event asks = subst LeavesReferences (sym asks.2) tt
asks_leaves kind moment (Clear Everything) event asks = subst LeavesReferences (sym asks.2) tt
asks_leaves kind moment (Clear (Compare name op value)) event asks = subst LeavesReferences (sym asks.2) tt
asks_leaves kind moment (Set text pairs) event asks = subst LeavesReferences (sym asks.4) tt
