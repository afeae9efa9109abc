-- The references that are out, and those that a connection holds.
use Rattle.std.specs.Prelude.{ℕ, ◌+◌, ◌≤◌, nat_eq, Bool, ◌&&◌, cond, Option, Some, None, List, count_by}
use Rattle.std.specs.Option.{option_map_or}
use Rattle.stick_model.specs.Key.{Key}
use Rattle.stick_model.specs.State.{State, same_ticket}
use Rattle.stick_model.specs.declared.rows.Ticket.{Ticket}
use Rattle.admit_core.specs.declared.held.Held.{Held}
use Rattle.admit_drive.specs.Tables.{TableState, shard_at}
use Rattle.shard_port.specs.declared.reference.Reference.{Reference}

-- whether two references are the same, each with the number of its table
abbrev pub same_reference : ℕ × Reference → ℕ × Reference → Bool
same_reference a b = nat_eq a.0 b.0 && (nat_eq a.1.shard b.1.shard && same_ticket a.1.ticket b.1.ticket)

-- ---- what is held

-- how often a slot holds a reference: once, or not
abbrev pub times_in : ℕ × Reference → Option (ℕ × Reference) → ℕ
times_in reference None = 0
times_in reference (Some entry) = cond (same_reference reference entry) 1 0

abbrev pub times_by : ℕ × Reference → Held Reference → ℕ
times_by reference held = times_in reference held.sc0 + times_in reference held.sc1 + times_in reference held.sc2

-- ---- what is out

-- how often a shard has a ticket out
abbrev pub times_of : Ticket → State → ℕ
times_of ticket state = count_by (λ (held : Ticket × Key). same_ticket ticket held.0) state.tickets

abbrev pub times_out : ℕ × Reference → List TableState → ℕ
times_out reference tables = option_map_or (times_of reference.1.ticket) (shard_at tables reference.0 reference.1.shard) 0

-- what a connection holds is out
abbrev pub IsCovered : List TableState → Held Reference → Type 0
IsCovered tables held = (reference : ℕ × Reference) → times_by reference held ≤ times_out reference tables
