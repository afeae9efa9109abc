-- What an event that only looks will be answered, once the clock has come to a moment.
use Rattle.std.specs.Prelude.{ℕ, List, map, filter, length}
use Rattle.std.specs.Option.{option_map_or}
use Rattle.stored_data.specs.declared.stored_set.Column.{Column}
use Rattle.stick_model.specs.Key.{Key}
use Rattle.stick_model.specs.State.{State, refs, record_at, row_of, stays, key_of}
use Rattle.stick_model.specs.Filters.{passes, not_stored}
use Rattle.stick_model.specs.declared.rows.Ticket.{Ticket}
use Rattle.stick_model.specs.declared.rows.Record.{Record}
use Rattle.stick_model.specs.declared.rows.Row.{Row}
use Rattle.stick_model.specs.declared.filters.Filter.{Filter}
use Rattle.stick_model.specs.declared.replies.Reply.{Reply}
use Rattle.stick_model.specs.declared.replies.Reply.TheVariants.{Absent, Row as ARow, NotStored, Rows}

-- a look at a key
abbrev pub shown_reply : State → ℕ → Key → Reply
shown_reply state clock key =
    option_map_or (λ found. ARow (row_of state.spec.columns clock (refs key state.tickets) key found)) (record_at key (filter (stays clock state.tickets) state.records)) Absent

-- a look at the key of a ticket
abbrev pub looked_reply : State → ℕ → Ticket → Reply
looked_reply state clock ticket = option_map_or (shown_reply state clock) (key_of ticket state.tickets) Absent

-- a listing
abbrev pub listed_rows : List Column → List (Ticket × Key) → ℕ → Filter → List (Key × Record) → List Row
listed_rows columns tickets clock choice records =
    map (λ (entry : Key × Record). row_of columns clock (refs entry.0 tickets) entry.0 entry.1) (filter (passes clock tickets choice) (filter (stays clock tickets) records))

abbrev pub listed_reply : State → ℕ → Filter → Reply
listed_reply state clock choice =
    option_map_or NotStored (not_stored state.spec.columns choice) (Rows (length (filter (stays clock state.tickets) state.records)) (listed_rows state.spec.columns state.tickets clock choice state.records))
