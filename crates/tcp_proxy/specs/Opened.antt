-- The tables of a setup, as threads share them.
use Rattle.std.specs.Prelude.{◌≡◌, ◌+◌, ◌*◌, ◌/◌, ◌%◌, ℕ, Bool, List, get_or, length, map, slice_get}
use Rattle.std.specs.Option.{option_map_or}
use Rattle.stick_model.specs.declared.specification.Spec.{Spec}
use Rattle.rule_model.specs.declared.sections.NamedSpec.{NamedSpec}
use Rattle.rule_model.specs.declared.sections.Setup.{Setup}
use Rattle.shard_record.specs.Views.{no_spec}
use Rattle.shard_book.specs.Keeping.{part_of}
use Rattle.shard_locks.specs.ShardsState.{ShardsState}
use Rattle.tcp_proxy.specs.declared.opening.CallRecord.{CallRecord}

-- all but the seed of its hashes
abbrev pub unseeded : Spec → Spec
unseeded spec = record { kind = spec.kind; size = spec.size; expire = spec.expire; nopurge = spec.nopurge; purge = spec.purge; columns = spec.columns; max_refs = spec.max_refs; life = spec.life; seed = 0 }

-- and but the number of its first book
abbrev pub but_for_seed : ShardsState → ShardsState
but_for_seed table = record { spec = unseeded table.spec; shards = table.shards; keep = table.keep; first = 0 }

-- a declared table, in so many shards, with receipts or without
abbrev pub declared_table : ℕ → Bool → NamedSpec → ShardsState
declared_table shards keep named = record { spec = unseeded named.spec; shards = shards; keep = keep; first = 0 }

-- they are the declared ones, in their order, each by a seed of its own
abbrev pub AreDeclared : ℕ → Bool → List NamedSpec → List ShardsState → Type 0
AreDeclared shards keep named tables = map but_for_seed tables ≡ map (declared_table shards keep) named

-- a record has a book for each shard of each table, and a seat at each table for each worker, each thread that answers clients, and the housekeeping; and each table has a seed
pub record HasPlaces (setup : Setup) (calls : CallRecord) : Type 0 where
  pub books : calls.opened.books ≡ setup.shards * length setup.tables
  pub seeds : length calls.seeds.items ≡ length setup.tables
  pub seats : calls.opened.seats ≡ (calls.workers + calls.clients + 1) * length setup.tables

-- ---- with what a record has the books made

-- a declared table by a seed of its own
abbrev pub seeded : ℕ → NamedSpec → Spec
seeded seed named = record named.spec { seed = seed }

-- the table of this number
abbrev pub table_spec : List NamedSpec → List ℕ → ℕ → Spec
table_spec tables seeds table = option_map_or (seeded (get_or seeds table 0)) (slice_get tables table) no_spec

-- the books of a table stand one after another, those of the first table first; each is made with its shard's part of its table
abbrev pub book_spec : Setup → List ℕ → ℕ → Spec
book_spec setup seeds book = part_of (table_spec setup.tables seeds (book / setup.shards)) setup.shards (book % setup.shards)
