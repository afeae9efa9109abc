-- Which references have passed a limit.
use Rattle.std.specs.Prelude.{ℕ, nat_le, Bool, ◌&&◌, if◌then◌else◌, List, [], ◌∷◌, ◌++◌, count_by}
use Rattle.std.specs.List.{list_any}
use Rattle.stick_model.specs.Key.{Key, same_key}
use Rattle.stick_model.specs.State.{State, same_ticket}
use Rattle.stick_model.specs.declared.rows.Ticket.{Ticket}
use Rattle.stick_model.specs.declared.events.Event.{Event}
use Rattle.stick_model.specs.declared.events.Event.TheVariants.{Look}
use Rattle.stick_model.specs.declared.replies.Reply.{Reply}
use Rattle.stick_model.specs.declared.replies.Reply.TheVariants.{Row as ARow}

-- the ticket of a look whose row is of the key and has at most `limit` references
abbrev pub passing_look : Key → ℕ → Event → Reply → List Ticket
passing_look key limit (Look now ticket) (ARow row) = if same_key key row.key && nat_le row.refs limit then ticket ∷ [] else []
passing_look key limit _ _ = []

-- those of a run
abbrev pub passing_looks : Key → ℕ → List Event → List Reply → List Ticket
passing_looks key limit [] replies = []
passing_looks key limit (event ∷ events) [] = []
passing_looks key limit (event ∷ events) (reply ∷ replies) = passing_look key limit event reply ++ passing_looks key limit events replies

-- whether a ticket of the key is among those that passed
abbrev pub has_passed : Key → List Ticket → Ticket × Key → Bool
has_passed key passed held = same_key key held.1 && list_any (same_ticket held.0) passed

-- how many tickets of the key are out in the state and have passed
abbrev pub passed_count : Key → List Ticket → State → ℕ
passed_count key passed state = count_by (has_passed key passed) state.tickets
