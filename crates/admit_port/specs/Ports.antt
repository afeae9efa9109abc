-- The ports of a setup's tables.
use Rattle.std.specs.Prelude.{◌≡◌, ℕ, ◌<◌, List, length, map, slice_get, Some}
use Rattle.rule_model.specs.declared.actions.Slot.{Slot}
use Rattle.rule_model.specs.declared.sections.Setup.{Setup}
use Rattle.admit_core.specs.Held.{held_at}
use Rattle.admit_core.specs.declared.held.Held.{Held}
use Rattle.admit_core.specs.declared.need.Need.{Need}
use Rattle.admit_core.specs.declared.need.Need.TheVariants.{Get, Track}

-- one for each table of the setup, in as many shards as the setup has
pub record ArePorts {S : Type 0} (parts : S → ℕ) (setup : Setup) (ports : List S) : Type 0 where
  pub count : length ports ≡ length setup.tables
  pub shards : (i : ℕ) (port : S) → slice_get ports i ≡ Some port → parts port ≡ setup.shards

-- in how many shards each is
abbrev pub parts_of : {S : Type 0} → (S → ℕ) → List S → List ℕ
parts_of parts ports = map parts ports

-- each reference that is held names one of so many ports
abbrev pub HoldsOf : {R : Type 0} → ℕ → Held R → Type 0
HoldsOf {R = R} ports held = (slot : Slot) (entry : ℕ × R) → held_at held slot ≡ Some entry → entry.0 < ports

-- a table that is wanted is one of so many
abbrev pub NamesOf : ℕ → Need → Type 0
NamesOf ports (Get table key) = table < ports
NamesOf ports (Track slot table key) = table < ports
NamesOf ports _ = Unit {0}
