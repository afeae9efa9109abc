-- What a contract sees of a `TicketBook`.
use Rattle.std.specs.Prelude.{ℕ, Bool, not, nat_eq, List, [], ◌∷◌, ◌++◌, filter, Option}
use Rattle.std.specs.List.{list_all}
use Rattle.std.specs.Map.{lookup}
use Rattle.stick_model.specs.State.{same_ticket}
use Rattle.stick_model.specs.declared.rows.Ticket.{Ticket}

-- how many tickets may be out, the greatest number of one so far, and those that are out, each with the slot of its
-- entry, the oldest first
pub record Tickets : Type 0 where
  pub capacity : ℕ
  pub newest : ℕ
  pub tickets : List (Ticket × ℕ)

abbrev pub told : ℕ → ℕ → List (Ticket × ℕ) → Tickets
told capacity newest tickets = record { capacity = capacity; newest = newest; tickets = tickets }

abbrev pub no_tickets : ℕ → Tickets
no_tickets capacity = told capacity 0 []

-- the slot of the entry of a ticket that is out
abbrev pub entry_of : Ticket → Tickets → Option ℕ
entry_of ticket book = lookup (same_ticket ticket) book.tickets

-- no ticket that is out has the slot
abbrev pub is_unused : ℕ → Tickets → Bool
is_unused slot book = list_all (λ (held : Ticket × ℕ). not (nat_eq held.0.slot slot)) book.tickets

-- one ticket more
abbrev pub with_ticket : Tickets → Ticket → ℕ → Tickets
with_ticket book ticket entry = told book.capacity ticket.number (book.tickets ++ (ticket, entry) ∷ [])

-- without a ticket
abbrev pub without_ticket : Tickets → Ticket → Tickets
without_ticket book ticket = told book.capacity book.newest (filter (λ (held : Ticket × ℕ). not (same_ticket ticket held.0)) book.tickets)
