-- What a contract sees of an `Order`.
use Rattle.std.specs.Prelude.{ℕ, not, ◌==◌, ◌<◌, if◌then◌else◌, List, [], ◌∷◌, slice_get, Option, None, refl, nat_eq}
use Rattle.std.specs.Coded.{Coded, code_by, coded×, coded_list, coded_ℕ}
use Rattle.std.specs.List.{filter, Contains, IsDistinct}

-- the slots from the front to the back, and the number that all are below
pub record Queue : Type 0 where
  pub capacity : ℕ
  pub slots : List ℕ

abbrev pub queue : ℕ → List ℕ → Queue
queue capacity slots = record { capacity = capacity; slots = slots }

abbrev pub queue_code : Coded Queue
queue_code = code_by (ℕ × List ℕ) (coded× coded_ℕ (coded_list coded_ℕ)) (λ q. (q.capacity, q.slots)) (λ p. queue p.0 p.1) (λ _. refl)

-- the slots are distinct and below the capacity
pub record IsQueue (q : Queue) : Type 0 where
  pub distinct : IsDistinct nat_eq q.slots
  pub below : (slot : ℕ) → Contains q.slots slot → slot < q.capacity

-- the slots without this one
abbrev pub without : List ℕ → ℕ → List ℕ
without slots slot = filter (λ other. not (other == slot)) slots

-- the slot that follows this one, if it is not the last
abbrev pub slot_after : List ℕ → ℕ → Option ℕ
slot_after [] slot = None
slot_after (first ∷ rest) slot = if first == slot then slice_get rest 0 else slot_after rest slot
