-- What a table holds, in the order in which its entries go: the answer to `show table NAME oldest-first`.
use Rattle.std.specs.Prelude.{◌≡◌, ◌⊎◌, ◌<◌, ℕ, zero, suc, Option, Some, None, List, [], ◌∷◌, ◌++◌, map, length, IsPermutation, slice_index_or}
use Rattle.std.specs.Ordering.{nat_cmp}
use Rattle.std.specs.List.Sorted.{IsSortedByKey}
use Rattle.stick_model.specs.Key.{Key}
use Rattle.stick_model.specs.State.{State, advance, row}
use Rattle.stick_model.specs.Refusals.{IsRefused}
use Rattle.stick_model.specs.declared.rows.Record.{Record}
use Rattle.stick_model.specs.declared.rows.Row.{Row}
use Rattle.stick_model.specs.declared.events.Event.TheVariants.{List as ListRows}
use Rattle.stick_model.specs.declared.filters.Filter.TheVariants.{Everything}
use Rattle.stick_model.specs.declared.replies.Reply.TheVariants.{Rows}
use Rattle.stick_model.specs.declared.replies.Refusal.{Refusal}
use Rattle.shard_book.specs.NamedTables.{NamedState}
use Rattle.table_texts.specs.Texts.{message_text, refusal_message, reply_text}
use Rattle.table_texts.specs.declared.message.Message.{Message}
use Rattle.table_texts.specs.declared.message.Message.TheVariants.{NoSuchTable, OutOfMemory}
use Rattle.table_cli.specs.Answers.{place_of}
use Rattle.table_cli.specs.declared.stamped.Stamped.{Stamped}

-- ---- a shard

-- a row beside the stamp of its entry: the number of the event that refreshed that last
abbrev pub stamped : State → Key × Record → Stamped
stamped state entry = record { stamp = entry.1.stamp; row = row state entry.0 entry.1 }

abbrev pub stamp_of : Stamped → ℕ
stamp_of one = one.stamp

abbrev pub row_of : Stamped → Row
row_of one = one.row

-- the rows of the entries that there are once the clock has come to a moment, each beside its stamp, and those with a lower stamp
-- first: of entries that nobody tracks those are the first to go
pub record IsOldestFirst (moment : ℕ) (live : State) (rows : List Stamped) : Type 0 where
  pub same : IsPermutation (map (stamped (advance live moment)) (advance live moment).records) rows
  pub rise : IsSortedByKey stamp_of nat_cmp rows

-- ---- a table

module _ {S : Type 0} (holds : S → ℕ → State → Type 0) (moment : ℕ) (state : S) where
  -- a shard may show these rows
  abbrev pub ShowsAt : ℕ → List Row → Type 0
  ShowsAt i rows = (live : State) × (all : List Stamped) × holds state i live × IsOldestFirst moment live all × (rows ≡ map row_of all)

  -- the first shards may show these rows, one shard behind the other
  abbrev pub ShowFirst : ℕ → List Row → Type 0
  ShowFirst zero rows = rows ≡ []
  ShowFirst (suc i) rows = (before here : List Row) × ShowFirst i before × ShowsAt i here × (rows ≡ before ++ here)

  -- why nothing is shown: a growth was refused, or what a shard may be can't be listed
  abbrev pub EndsShow : ℕ → Message → Type 0
  EndsShow shards message =
      (message ≡ OutOfMemory)
      ⊎ ((i : ℕ) × (live : State) × (refusal : Refusal) × (i < shards) × holds state i live × IsRefused live (ListRows moment Everything) refusal × (message ≡ refusal_message refusal))

-- the whole table's header, with the number of all rows, and the rows; or why nothing is shown
abbrev pub ShowsOldestFirst : {S : Type 0} → (S → ℕ → State → Type 0) → ℕ → NamedState S → List ℕ → Type 0
ShowsOldestFirst holds moment table text =
    ((rows : List Row) × ShowFirst holds moment table.state table.shards rows × (text ≡ reply_text table.name table.spec (Rows (length rows) rows)))
    ⊎ ((message : Message) × EndsShow holds moment table.state table.shards message × (text ≡ message_text message))

-- of the table at a place, if there is one
abbrev pub ShowsPlace : {S : Type 0} → (S → ℕ → State → Type 0) → ℕ → Option ℕ → List (NamedState S) → List ℕ → Type 0
ShowsPlace holds moment None tables text = text ≡ message_text NoSuchTable
ShowsPlace {S} holds moment (Some place) tables text = (table : NamedState S) × (table ≡ slice_index_or tables place table) × ShowsOldestFirst holds moment table text

-- of the table of a name
abbrev pub ShowsNamed : {S : Type 0} → (S → ℕ → State → Type 0) → ℕ → List ℕ → List (NamedState S) → List ℕ → Type 0
ShowsNamed holds moment name tables text = ShowsPlace holds moment (place_of name tables) tables text

-- ---- lists side by side

-- rows beside the stamps of entries, as far as both go
abbrev pub beside : List Row → List (Key × Record) → List Stamped
beside [] entries = []
beside (shown ∷ rows) [] = []
beside (shown ∷ rows) (entry ∷ entries) = record { stamp = entry.1.stamp; row = shown } ∷ beside rows entries
