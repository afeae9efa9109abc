-- The tables of a setup, each in shards with a book each, as connections and commands see them.
use Rattle.std.specs.Prelude.{◌≡◌, ℕ, ◌≤◌, ◌<◌, Option, Some, List, length, map, slice_get, All}
use Rattle.std.specs.Option.{option_map, option_and_then}
use Rattle.stick_model.specs.State.{State}
use Rattle.rule_model.specs.Served.{AreTableSpecs}
use Rattle.rule_model.specs.declared.sections.NamedSpec.{NamedSpec}
use Rattle.rule_model.specs.declared.sections.Setup.{Setup}
use Rattle.shard_book.specs.BookState.{BookState}
use Rattle.shard_book.specs.BooksState.{AreBooks, BooksState, opened_books}
use Rattle.shard_book.specs.NamedTables.{NamedState, states_of}
use Rattle.shard_book.specs.declared.named.Named.{Named}

-- a table's name, what it was made with, and the books of its shards
abbrev pub TableState : Type 0
TableState = NamedState BooksState

abbrev pub table_states : List (Named BooksState) → List TableState
table_states tables = states_of (λ (table : BooksState). table.spec) (λ (table : BooksState). length table.books) (λ (table : BooksState). table) tables

-- what shard `shard` of table `table` is now
abbrev pub shard_of : List BookState → ℕ → Option State
shard_of books shard = option_map (λ (book : BookState). book.live) (slice_get books shard)

abbrev pub shard_at : List TableState → ℕ → ℕ → Option State
shard_at tables table shard = option_and_then (λ (found : TableState). shard_of found.state.books shard) (slice_get tables table)

-- and its book
abbrev pub book_at : List TableState → ℕ → ℕ → Option BookState
book_at tables table shard = option_and_then (λ (found : TableState). slice_get found.state.books shard) (slice_get tables table)

-- there is such a shard
pub record HasShard (tables : List TableState) (table shard : ℕ) : Type 0 where
  pub found : TableState
  pub at : slice_get tables table ≡ Some found
  pub within : shard < length found.state.books

-- ---- the tables of a setup

-- each with the setup's number of shards, all empty
abbrev pub empty_table_of : ℕ → NamedSpec → TableState
empty_table_of shards named = record { name = named.name; spec = named.spec; shards = shards; state = opened_books named.spec shards }

abbrev pub empty_tables : Setup → List TableState
empty_tables setup = map (empty_table_of setup.shards) setup.tables

-- what a setup's tables can be opened with: 1 to 64 shards, no more than any table has places
pub record CanOpen (setup : Setup) : Type 0 where
  pub specs : AreTableSpecs setup.tables
  pub some : 1 ≤ setup.shards
  pub few : setup.shards ≤ 64
  pub places : All (λ (named : NamedSpec). setup.shards ≤ named.spec.size) setup.tables

-- the table is of this specification, in so many shards, each of which has its book
pub record IsTableOf (shards : ℕ) (named : NamedSpec) (table : TableState) : Type 0 where
  pub spec : table.state.spec ≡ named.spec
  pub in_shards : length table.state.books ≡ shards
  pub books : AreBooks table.state

-- the tables are those of the setup, in its order
pub record AreTablesOf (setup : Setup) (tables : List TableState) : Type 0 where
  pub some : 1 ≤ setup.shards
  pub count : length tables ≡ length setup.tables
  pub each : (i : ℕ) (table : TableState) → slice_get tables i ≡ Some table → (named : NamedSpec) × (slice_get setup.tables i ≡ Some named) × IsTableOf setup.shards named table
