-- Parts of a step, one after another.
use Rattle.std.specs.Prelude.{◌≡◌, ◌≤◌, ℕ, ◌+◌, length, Option, Some, None}
use Rattle.stick_model.specs.Key.{Key}
use Rattle.std.specs.Option.{option_map_or}
use Rattle.stick_model.specs.State.{State}
use Rattle.stick_model.specs.declared.rows.Ticket.{Ticket}

-- the state with one event more
abbrev pub with_event : State → State
with_event state = record state { events = state.events + 1 }

-- the slot of a ticket, where one was made
abbrev pub slot_made : Option Ticket → ℕ
slot_made ticket = option_map_or (λ (made : Ticket). made.slot) ticket 0

-- what is kept of a key so that a copy of it is never refused: a copy, or nothing where one takes no memory
abbrev pub IsSpare : Key → Option Key → Type 0
IsSpare key None = length key ≤ 16
IsSpare key (Some copy) = copy ≡ key
