-- How a `TicketBook` lies in its places. No public clause cites this module.
use Rattle.std.specs.Prelude.{ℕ, ◌+◌, List, [], ◌∷◌, map, Option}
use Rattle.std.specs.Option.{option_map}
use Rattle.std.specs.Ordering.{nat_cmp}
use Rattle.entry_pool.specs.Contents as Pools
use Rattle.entry_pool.specs.Contents.{Contents, IsPool}
use Rattle.stick_pooled.specs.Slots.{entries_of, IsDistinctIn}
use Rattle.stick_model.specs.declared.rows.Ticket.{Ticket}
use Rattle.stick_pooled.specs.Tickets.{Tickets, told}

-- what a place has: a ticket's number, the place's own number, and the slot of the ticket's entry
abbrev pub placed : ℕ → Pools.Entry ℕ → ℕ × (ℕ × ℕ)
placed place e = (e.generation, (place, e.value))

-- the places from this one on
abbrev pub numbered : ℕ → List (Option (Pools.Entry ℕ)) → List (Option (ℕ × (ℕ × ℕ)))
numbered place [] = []
numbered place (o ∷ os) = option_map (placed place) o ∷ numbered (place + 1) os

abbrev pub ticket_in : ℕ × (ℕ × ℕ) → Ticket × ℕ
ticket_in e = (record { number = e.0; slot = e.1.0 }, e.1.1)

abbrev pub tickets_in : List (Option (Pools.Entry ℕ)) → List (Ticket × ℕ)
tickets_in slots = map ticket_in (entries_of nat_cmp (numbered 0 slots))

abbrev pub shown : Contents ℕ → Tickets
shown pool = told pool.capacity pool.newest (tickets_in pool.slots)

-- no two tickets have one number
pub record IsSound (pool : Contents ℕ) : Type 0 where
  pub pooled : IsPool pool
  pub distinct : IsDistinctIn nat_cmp (numbered 0 pool.slots)
