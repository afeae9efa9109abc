-- What rows show of the current connections.
use Rattle.std.specs.Prelude.{◌≡◌, ℕ, Bool, true, false, List, Some}
use Rattle.stored_data.specs.Stored.{is_column}
use Rattle.stored_data.specs.declared.datum.Datum.TheVariants.{ConnCur}
use Rattle.stick_model.specs.Key.{Key}
use Rattle.stick_model.specs.Legal.{IsLegal}
use Rattle.stick_model.specs.Run.{Run}
use Rattle.stick_model.specs.State.{State, empty_table, record_at, refs, row}
use Rattle.stick_model.specs.Step.{Step}
use Rattle.stick_model.specs.declared.events.Event.{Event}
use Rattle.stick_model.specs.declared.events.Event.TheVariants.{Get, Look}
use Rattle.stick_model.specs.declared.replies.Reply.{Reply}
use Rattle.stick_model.specs.declared.replies.Reply.TheVariants.{Row as ARow}
use Rattle.stick_model.specs.declared.rows.Record.{Record}
use Rattle.stick_model.specs.declared.rows.Row.{Row}
use Rattle.stick_model.specs.declared.rows.Ticket.{Ticket}
use Rattle.stick_model.specs.declared.specification.Spec.{Spec}
use Rattle.rule_eval.specs.Readings.{value_in}

-- after every run from the empty table, where it stores conn_cur, a look shows of it how many references its key has
abbrev pub LookLaw : Type 0
LookLaw = (spec : Spec) (events : List Event) (replies : List Reply) (now_is : State) (now : ℕ) (ticket : Ticket) (row : Row) (later : State) →
    is_column spec.columns ConnCur ≡ true → Run (empty_table spec) events replies now_is → Step now_is (Look now ticket) (ARow row) later → value_in row.cells ConnCur ≡ row.refs

-- in every state that a table can come to, where it stores conn_cur, the row of a key shows of it how many references the key has
abbrev pub RowLaw : Type 0
RowLaw = (state : State) (key : Key) (found : Record) →
    IsLegal state → is_column state.spec.columns ConnCur ≡ true → record_at key state.records ≡ Some found → value_in (row state key found).cells ConnCur ≡ refs key state.tickets

-- whether an event is of one key, and reads its entry
abbrev pub is_reading : Event → Bool
is_reading (Get now key) = true
is_reading (Look now ticket) = true
is_reading event = false

-- in every such state a Get and a Look are answered a row that shows how many references its key has
abbrev pub ReadingLaw : Type 0
ReadingLaw = (state : State) (event : Event) (shown : Row) (later : State) →
    IsLegal state → is_column state.spec.columns ConnCur ≡ true → is_reading event ≡ true → Step state event (ARow shown) later → value_in shown.cells ConnCur ≡ refs shown.key state.tickets
