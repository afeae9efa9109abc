-- The tables of a setup as they begin, with nothing out; and that nothing is ever out twice.
use Rattle.std.proofs.Common.{◌≡◌, ℕ, zero, suc, ◌≤◌, refl, sym, subst, arith, List, [], ◌∷◌, map, slice_get, Option, Some, None}
use Rattle.std.specs.Prelude.{All}
use Rattle.std.specs.List.{range_with_len}
use Rattle.std.specs.Option.{option_and_then, option_map_or}
use Rattle.std.proofs.lemmas.List.{length-map}
use Rattle.std.proofs.lemmas.List.Elements.{All-head, All-tail}
use Rattle.std.proofs.lemmas.List.FromFn.{length-map-range_with_len}
use Rattle.stick_model.specs.Limits.{IsTableSpec}
use Rattle.stick_model.specs.State.{State}
use Rattle.rule_model.specs.declared.sections.NamedSpec.{NamedSpec}
use Rattle.rule_model.specs.declared.sections.Setup.{Setup}
use Rattle.shard_book.specs.BookState.{BookState, opened}
use Rattle.shard_book.specs.Keeping.{part_of}
use Rattle.shard_book.proofs.BooksLemmas.{opened_are_books}
use Rattle.admit_drive.specs.Balance.{times_of, times_out}
use Rattle.admit_drive.specs.Tables.{AreTablesOf, CanOpen, IsTableOf, TableState, empty_table_of, empty_tables, shard_at, shard_of}
use Rattle.shard_port.specs.declared.reference.Reference.{Reference}
use Rattle.admit_drive.proofs.CallLemmas.{legal_at}
use Rattle.admit_drive.proofs.SumLemmas.{some_same}
use Rattle.admit_drive.proofs.TicketLemmas.{once_of}

-- ---- lists

at_all : {X : Type 0} (P : X → Type 0) (xs : List X) (i : ℕ) (x : X) → All P xs → slice_get xs i ≡ Some x → P x
at_all P [] i x all at = cc
at_all P (y ∷ ys) zero x all at = subst P (some_same y x at) (All-head P y ys all)
at_all P (y ∷ ys) (suc i) x all at = at_all P ys i x (All-tail P y ys all) at

-- what a place of a mapped list is made of
pub from_map : {X Y : Type 0} (f : X → Y) (xs : List X) (i : ℕ) (y : Y) → slice_get (map f xs) i ≡ Some y → (x : X) × (slice_get xs i ≡ Some x) × (y ≡ f x)
from_map f [] i y at = cc
from_map f (x ∷ xs) zero y at = (x, refl, sym (some_same (f x) y at))
from_map f (x ∷ xs) (suc i) y at = from_map f xs i y at

-- ---- the tables

opened_table : (setup : Setup) (named : NamedSpec) → IsTableSpec named.spec → 1 ≤ setup.shards → setup.shards ≤ 64 → setup.shards ≤ named.spec.size → IsTableOf setup.shards named (empty_table_of setup.shards named)
opened_table setup named limits some few places = record {
  spec = refl;
  in_shards = length-map-range_with_len (λ i. opened (part_of named.spec setup.shards i)) 0 setup.shards;
  books = opened_are_books named.spec setup.shards limits some few places;
}

pub opened_tables : (setup : Setup) → CanOpen setup → AreTablesOf setup (empty_tables setup)
opened_tables setup opens = record {
  some = opens.some;
  count = length-map setup.tables (empty_table_of setup.shards);
  each = λ i table at.
      let from = from_map (empty_table_of setup.shards) setup.tables i table at in
      let limits : IsTableSpec from.0.spec = at_all (λ (named : NamedSpec). IsTableSpec named.spec) setup.tables i from.0 opens.specs from.1 in
      let places : setup.shards ≤ from.0.spec.size = at_all (λ (named : NamedSpec). setup.shards ≤ named.spec.size) setup.tables i from.0 opens.places from.1 in
      (from.0, from.1, subst (λ (t : TableState). IsTableOf setup.shards from.0 t) (sym from.2) (opened_table setup from.0 limits opens.some opens.few places));
}

-- nothing is out
none_opened : (reference : ℕ × Reference) (spec : ℕ → BookState) (shards : List ℕ) → ((i : ℕ) → times_of reference.1.ticket (spec i).live ≡ 0) → (s : ℕ) → option_map_or (times_of reference.1.ticket) (shard_of (map spec shards) s) 0 ≡ 0
none_opened reference spec [] none s = refl
none_opened reference spec (i ∷ more) none zero = none i
none_opened reference spec (i ∷ more) none (suc s) = none_opened reference spec more none s

none_out : (reference : ℕ × Reference) (shards : ℕ) (tables : List NamedSpec) (t : ℕ)
    → option_map_or (times_of reference.1.ticket) (option_and_then (λ (found : TableState). shard_of found.state.books reference.1.shard) (slice_get (map (empty_table_of shards) tables) t)) 0 ≡ 0
none_out reference shards [] t = refl
none_out reference shards (named ∷ more) zero = none_opened reference (λ i. opened (part_of named.spec shards i)) (range_with_len 0 shards) (λ i. refl) reference.1.shard
none_out reference shards (named ∷ more) (suc t) = none_out reference shards more t

pub nothing_out : (setup : Setup) (reference : ℕ × Reference) → times_out reference (empty_tables setup) ≡ 0
nothing_out setup reference = none_out reference setup.shards setup.tables reference.0

-- ---- each once

pub once_out : (setup : Setup) (tables : List TableState) (reference : ℕ × Reference) → AreTablesOf setup tables → times_out reference tables ≤ 1
once_out setup tables reference are = by (shard_at tables reference.0 reference.1.shard) refl
  where
    by : (o : Option State) → shard_at tables reference.0 reference.1.shard ≡ o → option_map_or (times_of reference.1.ticket) o 0 ≤ 1
    by None is = omega arith
    by (Some live) is = once_of reference.1.ticket live (legal_at setup tables reference.0 reference.1.shard live are is)
