-- What the entries of a store are as records of a table.
use Rattle.std.specs.Prelude.{◌≡◌, ◌≢◌, ℕ, ◌+◌, ◌<◌, ◌≤◌, true, false, List, [], ◌∷◌, map, Option, Some}
use Rattle.std.specs.Option.{option_map, option_map_or}
use Rattle.std.specs.List.{AllByRecursion, Contains}
use Rattle.stick_pooled.specs.Stock.{Held, Stock, held_at}
use Rattle.stick_pooled.specs.Slots.{entries_of}
use Rattle.stick_pooled.specs.declared.entry.Kept.{Kept}
use Rattle.stick_model.specs.Key.{Key, key_cmp}
use Rattle.stick_model.specs.State.{refs, outlives}
use Rattle.stick_model.specs.declared.rows.Ticket.{Ticket}
use Rattle.stick_model.specs.declared.rows.Record.{Record}

-- the record of an entry: its date follows from the moment of its last refresh
abbrev pub record_of : Option ℕ → Held → Record
record_of expire held = record { stamp = held.entry.stamp; date = option_map (λ life. held.entry.moment + life) expire; values = held.values }

abbrev pub keyed : Option ℕ → Held → Key × Record
keyed expire held = (held.key, record_of expire held)

-- the records, in the order of their keys
abbrev pub records_of : Option ℕ → Stock → List (Key × Record)
records_of expire s = entries_of key_cmp (map (option_map (keyed expire)) s.slots)

-- the record of an entry as it was kept
abbrev pub kept_record : Option ℕ → Kept → Record
kept_record expire kept = record { stamp = kept.stamp; date = option_map (λ life. kept.moment + life) expire; values = kept.values }

abbrev pub kept_keyed : Option ℕ → Kept → Key × Record
kept_keyed expire kept = (kept.key, kept_record expire kept)

-- the records of these slots, in the order of their keys
abbrev pub kept_records : Option ℕ → List (Option Kept) → List (Key × Record)
kept_records expire slots = entries_of key_cmp (map (option_map (kept_keyed expire)) slots)

-- each entry has as many references as tickets of its key are out
abbrev pub AreCounted : Stock → List (Ticket × Key) → Type 0
AreCounted s tickets = (slot : ℕ) (held : Held) → held_at s slot ≡ Some held → held.entry.refs ≡ refs held.key tickets

abbrev pub stamp_at : Stock → ℕ → ℕ
stamp_at s slot = option_map_or (λ (held : Held). held.entry.stamp) (held_at s slot) 0

abbrev pub moment_at : Stock → ℕ → ℕ
moment_at s slot = option_map_or (λ (held : Held). held.entry.moment) (held_at s slot) 0

-- along these slots stamps rise, and moments don't fall
abbrev pub IsRising : Stock → List ℕ → Type 0
IsRising s [] = Unit {0}
IsRising s (slot ∷ later) = AllByRecursion (λ other. (stamp_at s slot < stamp_at s other) × (moment_at s slot ≤ moment_at s other)) later × IsRising s later

-- the slot's entry, which no reference holds, has reached its date
pub record IsDead (s : Stock) (expire : Option ℕ) (clock slot : ℕ) : Type 0 where
  pub held : Held
  pub there : held_at s slot ≡ Some held
  pub queued : Contains s.queue slot
  pub reached : outlives clock (record_of expire held) ≡ false

-- no entry that no reference holds has reached its date
abbrev pub AreAlive : Stock → Option ℕ → ℕ → Type 0
AreAlive s expire clock = (slot : ℕ) (held : Held) → Contains s.queue slot → held_at s slot ≡ Some held → outlives clock (record_of expire held) ≡ true

-- what is left once the clock has come to a moment: entries that were there, each of those that references hold among them,
-- and the base as it was
pub record IsLeft (old new : Stock) : Type 0 where
  pub fewer : (slot : ℕ) (held : Held) → held_at new slot ≡ Some held → held_at old slot ≡ Some held
  pub tracked : (slot : ℕ) (held : Held) → held_at old slot ≡ Some held → held.entry.refs ≢ 0 → held_at new slot ≡ Some held
  pub base : new.base ≡ old.base
