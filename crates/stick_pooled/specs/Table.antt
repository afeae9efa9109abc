-- What a `StickTable` keeps of its parts.
use Rattle.std.specs.Prelude.{◌≡◌, ℕ, ◌≤◌, nat_eq, List, map, length, get_or, Option, Some, None, IsSome}
use Rattle.std.specs.List.{AllByRecursion, IsDistinct}
use Rattle.stick_pooled.specs.Stock.{Held, Stock, IsStock, AreDistinct, held_at, key_in}
use Rattle.stick_pooled.specs.Tickets.{Tickets}
use Rattle.stick_table.specs.Invariant.{IsBounded}
use Rattle.stick_model.specs.Key.{Key}
use Rattle.stick_model.specs.State.{State}
use Rattle.stick_model.specs.declared.rows.Ticket.{Ticket}
use Rattle.stick_model.specs.declared.specification.Spec.{Spec}
use Rattle.stick_pooled.specs.Shown.{records_of, kept_records, AreCounted, IsRising}
use Rattle.stick_pooled.specs.declared.entry.Kept.{Kept}

-- a ticket with the key of its entry
abbrev pub with_key : Stock → Ticket × ℕ → Ticket × Key
with_key s ticket = (ticket.0, key_in (held_at s ticket.1))

-- the number of a ticket
abbrev pub number_of : Ticket × ℕ → ℕ
number_of ticket = ticket.0.number

-- the tickets that are out, with their keys
abbrev pub tickets_of : Stock → Tickets → List (Ticket × Key)
tickets_of s book = map (with_key s) book.tickets

-- the state that the parts mean
abbrev pub state_of : Spec → ℕ → ℕ → Stock → Tickets → State
state_of spec clock events s book = record { spec = spec; clock = clock; events = events; records = records_of spec.expire s; tickets = tickets_of s book }

pub record IsTable (spec : Spec) (clock events : ℕ) (s : Stock) (book : Tickets) : Type 0 where
  pub bounded : IsBounded spec clock events (tickets_of s book)
  pub stock : IsStock s
  -- along the queue stamps rise, and moments don't fall
  pub rising : IsRising s s.queue
  -- each entry has as many references as its key has tickets, and each ticket has an entry
  pub counted : AreCounted s (tickets_of s book)
  pub held : AllByRecursion (λ (ticket : Ticket × ℕ). IsSome (held_at s ticket.1)) book.tickets
  -- no two tickets have one number, and each was made by an event of the past
  pub numbered : IsDistinct nat_eq (map number_of book.tickets)
  pub issued : AllByRecursion (λ number. number ≤ events) (map number_of book.tickets)
  -- what was refreshed was so by an event, at a clock, of the past
  pub past : (slot : ℕ) (held : Held) → held_at s slot ≡ Some held → (held.entry.stamp ≤ events) × (held.entry.moment ≤ clock)
  pub store_newest : s.newest ≤ events
  pub book_newest : book.newest ≤ events
  pub columns : s.columns ≡ spec.columns
  pub sized : length s.slots ≡ spec.size
  pub capacity : book.capacity ≡ spec.max_refs

-- the state that the parts meant at the base
abbrev pub base_of : Spec → ℕ → ℕ → List (Option Kept) → List (Ticket × Key) → State
base_of spec clock events slots tickets = record { spec = spec; clock = clock; events = events; records = kept_records spec.expire slots; tickets = tickets }

-- what a table keeps of its base
pub record IsBase (spec : Spec) (clock events : ℕ) (slots : List (Option Kept)) (tickets : List (Ticket × Key)) : Type 0 where
  pub bounded : IsBounded spec clock events tickets
  pub distinct : AreDistinct slots
  -- what was refreshed was so at a clock of the past
  pub past : (slot : ℕ) (kept : Kept) → get_or slots slot None ≡ Some kept → kept.moment ≤ clock
  pub sized : length slots ≡ spec.size
