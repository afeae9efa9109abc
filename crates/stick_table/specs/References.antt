-- A reference that is made.
use Rattle.std.specs.Prelude.{ℕ, Option, Some, None}
use Rattle.std.specs.Option.{option_map_or}
use Rattle.stick_model.specs.Key.{Key}
use Rattle.stick_model.specs.State.{State}
use Rattle.stick_model.specs.Room.{stored}
use Rattle.stick_model.specs.Step.{with_ticket}
use Rattle.stick_model.specs.declared.rows.Ticket.{Ticket}
use Rattle.stick_model.specs.declared.rows.Record.{Record}

-- with this record at the key, and a reference to it that has this slot, where there is room; and the reference's ticket
abbrev pub entered : State → Key → ℕ → Record → Option Ticket × State
entered state key slot found =
    let ticket : Ticket = record { number = state.events; slot = slot } in
    option_map_or {U = Option Ticket × State} (λ roomy. (Some ticket, with_ticket roomy ticket key)) (stored state key found) (None, state)
