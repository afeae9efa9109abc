-- Tables in shards with their names, as contracts see them.
use Rattle.std.specs.Prelude.{ℕ, List, map}
use Rattle.stick_model.specs.declared.specification.Spec.{Spec}
use Rattle.shard_book.specs.declared.named.Named.{Named}

-- a table's name, what it was made with, in how many shards, and what they are now
pub record NamedState (S : Type 0) : Type 0 where
  pub name : List ℕ
  pub spec : Spec
  pub shards : ℕ
  pub state : S

abbrev pub state_of : {K S : Type 0} → (K → Spec) → (K → ℕ) → (K → S) → Named K → NamedState S
state_of spec shards state named = record { name = named.name; spec = spec named.keeper; shards = shards named.keeper; state = state named.keeper }

abbrev pub states_of : {K S : Type 0} → (K → Spec) → (K → ℕ) → (K → S) → List (Named K) → List (NamedState S)
states_of spec shards state tables = map (state_of spec shards state) tables
