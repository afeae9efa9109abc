-- Room for one more record.
use Rattle.std.specs.Prelude.{ℕ, nat_lt, max, Bool, not, ◌&&◌, ◌||◌, if◌then◌else◌, List, length, filter, count_by, Option, Some, None, is_some}
use Rattle.std.specs.BTreeMap.{insert_entry}
use Rattle.std.specs.Option.{option_map}
use Rattle.std.specs.List.{list_all}
use Rattle.stick_model.specs.Key.{Key, key_cmp}
use Rattle.stick_model.specs.State.{State, is_tracked, record_at}
use Rattle.stick_model.specs.declared.rows.Ticket.{Ticket}
use Rattle.stick_model.specs.declared.rows.Record.{Record}
use Rattle.stick_model.specs.declared.specification.Spec.{Spec}

-- how many untracked records were refreshed before this stamp
abbrev pub count_older : List (Ticket × Key) → List (Key × Record) → ℕ → ℕ
count_older tickets records stamp = count_by (λ (other : Key × Record). not (is_tracked other.0 tickets) && nat_lt other.1.stamp stamp) records

-- whether it is one of the `purge` oldest among the untracked
abbrev pub is_purged : ℕ → List (Ticket × Key) → List (Key × Record) → Key × Record → Bool
is_purged purge tickets records entry = not (is_tracked entry.0 tickets) && nat_lt (count_older tickets records entry.1.stamp) purge

abbrev pub purged : ℕ → List (Ticket × Key) → List (Key × Record) → List (Key × Record)
purged purge tickets records = filter (λ (entry : Key × Record). not (is_purged purge tickets records entry)) records

abbrev pub all_tracked : List (Ticket × Key) → List (Key × Record) → Bool
all_tracked tickets records = list_all (λ (entry : Key × Record). is_tracked entry.0 tickets) records

-- how many of the oldest make room for a new record: as many as the table is made with, and one at least
abbrev pub purge_of : Spec → ℕ
purge_of spec = max 1 spec.purge

-- the records with room for one more: as they are below the size; else, unless that is ruled out, without the oldest untracked
abbrev pub room_in : Spec → List (Ticket × Key) → List (Key × Record) → Option (List (Key × Record))
room_in spec tickets records =
    if nat_lt (length records) spec.size then Some records
    else (if spec.nopurge || all_tracked tickets records then None
    else Some (purged (purge_of spec) tickets records))

-- with room for a key: a key that is there needs none
abbrev pub space_in : Spec → List (Ticket × Key) → List (Key × Record) → Key → Option (List (Key × Record))
space_in spec tickets records key = if is_some (record_at key records) then Some records else room_in spec tickets records

-- with this record at the key, where there is room
abbrev pub stored_in : Spec → List (Ticket × Key) → List (Key × Record) → Key → Record → Option (List (Key × Record))
stored_in spec tickets records key found = option_map (λ roomy. insert_entry key_cmp roomy key found) (space_in spec tickets records key)

abbrev pub stored : State → Key → Record → Option State
stored state key found = option_map (λ records. record state { records = records }) (stored_in state.spec state.tickets state.records key found)
