-- The order in which lists of tickets are compared.
use Rattle.std.specs.Prelude.{◌≡◌, ◌<◌, ◌≤◌, ◌⊎◌, List, [], ◌∷◌, All}
use Rattle.stick_model.specs.declared.rows.Ticket.{Ticket}

-- of a lower number; or of the same, and its slot isn't higher
abbrev pub IsUpTo : Ticket → Ticket → Type 0
IsUpTo ticket other = (ticket.number < other.number) ⊎ ((ticket.number ≡ other.number) × (ticket.slot ≤ other.slot))

-- each ticket is up to all behind it
abbrev pub Rise : List Ticket → Type 0
Rise [] = Unit {0}
Rise (ticket ∷ tickets) = All (IsUpTo ticket) tickets × Rise tickets
