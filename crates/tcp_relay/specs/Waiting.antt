-- Who is waited for, by the places of a worker.
use Rattle.std.specs.Prelude.{ℕ, ◌+◌, ◌-◌, ◌^◌, min, Option, Some, None, List, slice_get}

-- what a place has: nothing where there is no such place
abbrev pub of_place : {X : Type 0} → Option (Option X) → Option X
of_place None = None
of_place (Some slot) = slot

-- who is waited for in a place
abbrev pub in_place : {X : Type 0} → List (Option X) → ℕ → Option X
in_place clients place = of_place (slice_get clients place)

-- how many there are once the one of a place is taken out of it
abbrev pub count_less : {X : Type 0} → Option X → ℕ → ℕ
count_less None count = count
count_less (Some one) count = count - 1

-- how many clients a worker has in hand: those that are open, and those that it waits for
abbrev pub in_hand : ℕ → ℕ → ℕ
in_hand held waits = min (held + waits) (2 ^ 64 - 1)
