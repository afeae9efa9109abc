-- What a stick table is: its records by key, in the keys' order, and its outstanding tickets, the oldest first.
use Rattle.std.specs.Prelude.{ℕ, ◌+◌, ◌-◌, max, nat_eq, nat_lt, Bool, true, not, ◌&&◌, ◌||◌, List, [], map, filter, count_by, Option, None, unwrap_or}
use Rattle.std.specs.Option.{option_map, option_map_or}
use Rattle.std.specs.List.{list_all}
use Rattle.std.specs.Map.{lookup}
use Rattle.stored_data.specs.Acts.{value_at, zero_of}
use Rattle.stored_data.specs.Fields.{fields_of}
use Rattle.stored_data.specs.declared.field.Field.{Field}
use Rattle.stored_data.specs.declared.stored_set.Column.{Column}
use Rattle.stick_model.specs.Key.{Key, same_key}
use Rattle.stick_model.specs.declared.rows.Ticket.{Ticket}
use Rattle.stick_model.specs.declared.rows.Record.{Record}
use Rattle.stick_model.specs.declared.rows.Cell.{Cell}
use Rattle.stick_model.specs.declared.rows.Row.{Row}
use Rattle.stick_model.specs.declared.specification.Spec.{Spec}

pub record State : Type 0 where
  pub spec : Spec
  pub clock : ℕ
  pub events : ℕ
  pub records : List (Key × Record)
  pub tickets : List (Ticket × Key)

abbrev pub empty_table : Spec → State
empty_table spec = record { spec = spec; clock = 0; events = 0; records = []; tickets = [] }

-- ---- tickets

abbrev pub same_ticket : Ticket → Ticket → Bool
same_ticket a b = nat_eq a.number b.number && nat_eq a.slot b.slot

-- the key of a ticket that is out
abbrev pub key_of : Ticket → List (Ticket × Key) → Option Key
key_of ticket tickets = lookup (same_ticket ticket) tickets

-- how many tickets of a key are out
abbrev pub refs : Key → List (Ticket × Key) → ℕ
refs key tickets = count_by (λ (held : Ticket × Key). same_key key held.1) tickets

abbrev pub is_tracked : Key → List (Ticket × Key) → Bool
is_tracked key tickets = nat_lt 0 (refs key tickets)

-- whether no ticket that is out has the slot
abbrev pub is_free : ℕ → List (Ticket × Key) → Bool
is_free slot tickets = list_all (λ (held : Ticket × Key). not (nat_eq held.0.slot slot)) tickets

-- ---- records

abbrev pub record_at : Key → List (Key × Record) → Option Record
record_at key records = lookup (same_key key) records

-- the record of a key that wasn't there
abbrev pub zero_record : List Column → Record
zero_record columns = record { stamp = 0; date = None; values = zero_of columns }

-- the record, refreshed by the event that the state counted last
abbrev pub touched : State → Record → Record
touched state found = record found { stamp = state.events; date = option_map (λ life. state.clock + life) state.spec.expire }

-- ---- rows

-- what a row shows of a field: its value, or the references of the key for conn_cur, of which nothing is kept
abbrev pub shown : ℕ → ℕ → Record → Field → Cell
shown clock count found field = record { field = field; value = unwrap_or (value_at found.values field clock) count }

abbrev pub row_of : List Column → ℕ → ℕ → Key → Record → Row
row_of columns clock count key found = record {
  key = key;
  refs = count;
  left = unwrap_or found.date 0 - clock;
  cells = map (shown clock count found) (fields_of columns);
}

abbrev pub row : State → Key → Record → Row
row state key found = row_of state.spec.columns state.clock (refs key state.tickets) key found

-- ---- the clock goes on, and the untracked records whose date it reaches are gone

abbrev pub outlives : ℕ → Record → Bool
outlives clock found = option_map_or (λ date. nat_lt clock date) found.date true

abbrev pub stays : ℕ → List (Ticket × Key) → Key × Record → Bool
stays clock tickets entry = is_tracked entry.0 tickets || outlives clock entry.1

abbrev pub advance : State → ℕ → State
advance state moment =
    let clock = max state.clock moment in
    record state { clock = clock; records = filter (stays clock state.tickets) state.records }
