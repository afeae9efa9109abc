-- Lists of seats and of references, one for each table.
use Rattle.std.specs.Prelude.{◌≡◌, ℕ, Bool, false, zero, suc, ◌+◌, ◌≤◌, ◌++◌, ◌∷◌, [], List, Option, Some, None, All, map, slice_get, vec_len, vec_capacity}
use Rattle.std.specs.Option.{option_map_or}
use Rattle.std.specs.declared.vec.Vec.{Vec}
use Rattle.stored_data.specs.Stored.{is_column}
use Rattle.stored_data.specs.declared.datum.Datum.TheVariants.{ConnCur}
use Rattle.stick_model.specs.declared.specification.Spec.{Spec}
use Rattle.rule_model.specs.declared.sections.NamedSpec.{NamedSpec}
use Rattle.rule_model.specs.declared.sections.Setup.{Setup}

-- a list has so many, and places for so many
abbrev pub Has : {X Z : Type 0} → ℕ → ℕ → Vec X Z → Type 0
Has count places list = (vec_len list ≡ count) × (places ≤ vec_capacity list)

-- each list has so many, and places for so many
abbrev pub HaveEach : {X Z : Type 0} → ℕ → ℕ → List (Vec X Z) → Type 0
HaveEach count places lists = All (Has count places) lists

-- each list has at most so many, and places for so many
abbrev pub HaveFew : {X Z : Type 0} → ℕ → ℕ → List (Vec X Z) → Type 0
HaveFew most places lists = All (λ list. (vec_len list ≤ most) × (places ≤ vec_capacity list)) lists

-- each list has places for so many more
abbrev pub HaveRoom : {X Z : Type 0} → ℕ → List (Vec X Z) → Type 0
HaveRoom more lists = All (λ list. vec_len list + more ≤ vec_capacity list) lists

-- each of these is in so many shards
abbrev pub AreIn : {X : Type 0} → (X → ℕ) → ℕ → List X → Type 0
AreIn {X = X} parts shards tables = (i : ℕ) (table : X) → slice_get tables i ≡ Some table → parts table ≡ shards

-- whether each of these, by what it is made with, stores conn_cur, is as this says of its place
abbrev pub StoreAs : {X : Type 0} → (X → Spec) → (ℕ → Bool) → List X → Type 0
StoreAs {X = X} made current tables = (i : ℕ) (table : X) → slice_get tables i ≡ Some table → is_column (made table).columns ConnCur ≡ current i

-- whether a table of a setup stores it
abbrev pub stores_current : Setup → ℕ → Bool
stores_current setup table = option_map_or (λ (named : NamedSpec). is_column named.spec.columns ConnCur) (slice_get setup.tables table) false

-- a setup without a table, a rule or an address
abbrev pub no_setup : Setup
no_setup = record { tables = []; rules = []; bind = None; server = None; shards = 0; prefixes = record { ipv4 = 0; ipv6 = 0 } }

-- what each list holds
abbrev pub held_in : {X Z : Type 0} → List (Vec X Z) → List (List X)
held_in lists = map (λ list. list.items) lists

-- the lists of tables, with one more at the end of this table's
unfoldable pub put_in : {X : Type 0} → ℕ → X → List (List X) → List (List X)
put_in table more [] = []
put_in zero more (held ∷ lists) = (held ++ more ∷ []) ∷ lists
put_in (suc table) more (held ∷ lists) = held ∷ put_in table more lists

-- the same, if there is one more, of the table that it names
abbrev pub put_in_if : {X : Type 0} → Option (ℕ × X) → List (List X) → List (List X)
put_in_if None lists = lists
put_in_if (Some entry) lists = put_in entry.0 entry.1 lists
