-- What commands work on: tables, and a clock.
use Rattle.std.specs.Prelude.{ℕ, ◌+◌, ◌-◌, ◌^◌, min, List}
use Rattle.stick_model.specs.declared.specification.Spec.{Spec}
use Rattle.shard_book.specs.NamedTables.{NamedState, states_of}
use Rattle.shard_book.specs.declared.named.Named.{Named}

-- the tables, in order of declaration, and the clock by which commands are made
pub record CommandState (S C : Type 0) : Type 0 where
  pub tables : List (NamedState S)
  pub clock : C

-- in a state a clock may show this moment in ms, and leave that state
abbrev pub Showing : Type 0 → Type 1
Showing C = C → ℕ → C → Type 0

-- the same, and how many commands were answered
pub record ServiceState (S C : Type 0) : Type 0 where
  pub at : CommandState S C
  pub done : ℕ

abbrev pub service_state : {K S D C : Type 0} → (K → Spec) → (K → ℕ) → (K → S) → (D → C) → List (Named K) → D → ℕ → ServiceState S C
service_state spec shards state showing tables clock done = record { at = record { tables = states_of spec shards state tables; clock = showing clock }; done = done }

-- so many more: counts stop at 2^64 - 1
abbrev pub more : ℕ → ℕ → ℕ
more done count = min (done + count) (2 ^ 64 - 1)
