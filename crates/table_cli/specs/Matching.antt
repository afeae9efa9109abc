-- Which rows several filters mean: those that match all of them, by the values that they show. They are listed, or their entries go.
use Rattle.std.specs.Prelude.{◌≡◌, ℕ, Bool, true, false, ◌||◌, Option, Some, None, Result, Ok, Err, List, [], ◌∷◌, codes, filter, option_map, slice_index_or, slice_set}
use Rattle.std.specs.List.{find, list_all, range_with_len}
use Rattle.std.specs.Option.{option_map_or}
use Rattle.stick_key.specs.Shard.{shard}
use Rattle.stored_data.specs.Fields.{is_field, same_field}
use Rattle.stored_data.specs.declared.field.Field.{Field}
use Rattle.stored_data.specs.declared.stored_set.Column.{Column}
use Rattle.stick_model.specs.Filters.{compares}
use Rattle.stick_model.specs.declared.rows.Cell.{Cell}
use Rattle.stick_model.specs.declared.rows.Row.{Row}
use Rattle.stick_model.specs.declared.specification.Spec.{Spec}
use Rattle.stick_model.specs.declared.filters.Filter.{Filter}
use Rattle.stick_model.specs.declared.filters.Filter.TheVariants as filters
use Rattle.stick_model.specs.declared.events.Event.TheVariants.{Clear, List as ListRows}
use Rattle.stick_model.specs.declared.replies.Reply.{Reply}
use Rattle.stick_model.specs.declared.replies.Reply.TheVariants.{InUse, Rows}
use Rattle.shard_book.specs.NamedTables.{NamedState}
use Rattle.shard_book.specs.Total.{IsShown, total}
use Rattle.table_texts.specs.Comparisons.{ReadsComparisons}
use Rattle.table_texts.specs.Filters.{Filtered}
use Rattle.table_texts.specs.Texts.{message_text, reply_text}
use Rattle.table_texts.specs.declared.comparisons.Comparison.{Comparison}
use Rattle.table_texts.specs.declared.message.Message.{Message}
use Rattle.table_texts.specs.declared.message.Message.TheVariants.{InUse as ItIsInUse, NoSuchTable, NotStored}
use Rattle.table_cli.specs.Answers.{place_of}
use Rattle.table_cli.specs.Shards.{Answering, AsksInTurn, Refusing}
use Rattle.table_cli.specs.declared.clear_matching.Deed.{Deed}
use Rattle.table_cli.specs.declared.clear_matching.Deed.TheVariants.{Remove, Show}

-- ---- rows

-- the value of a field among these, where it is shown
abbrev pub value_shown : List Cell → Field → Option ℕ
value_shown cells field = option_map (λ (cell : Cell). cell.value) (find (λ (cell : Cell). same_field cell.field field) cells)

-- whether a row shows a value that compares so
abbrev pub is_match : Row → Comparison → Bool
is_match row one = option_map_or (λ (value : ℕ). compares one.op value one.bound) (value_shown row.cells one.field) false

-- whether a row matches all filters
abbrev pub matches_all : List Comparison → Row → Bool
matches_all all row = list_all (is_match row) all

-- a reply with those of its rows alone that match all filters; it tells as many entries as before
abbrev pub narrowed : List Comparison → Reply → Reply
narrowed all (Rows used rows) = Rows used (filter (matches_all all) rows)
narrowed all reply = reply

-- ---- what a table is asked

-- the table itself picks the entries that match the first filter
abbrev pub first_filter : List Comparison → Filter
first_filter [] = filters.Everything
first_filter (one ∷ more) = filters.Compare one.field one.op one.bound

abbrev pub other_filters : List Comparison → List Comparison
other_filters [] = []
other_filters (one ∷ more) = more

-- whether a table stores what each filter compares
abbrev pub are_stored : List Column → List Comparison → Bool
are_stored columns all = list_all (λ (one : Comparison). is_field columns one.field) all

-- the rows of a reply
abbrev pub rows_listed : Reply → List Row
rows_listed (Rows used rows) = rows
rows_listed _ = []

-- it is printed what the replies of its shards come to, with the rows alone that match these filters too; or why it ended
abbrev pub PrintsMatching : List Comparison → List ℕ → Spec → List Reply → Option Message → List ℕ → Type 0
PrintsMatching others name spec replies None text = (shown : Reply) × IsShown (total replies) shown × (text ≡ reply_text name spec (narrowed others shown))
PrintsMatching others name spec replies (Some message) text = text ≡ message_text message

-- ---- entries that are cleared

-- whether an entry that was to go stays, as it is tracked
abbrev pub is_kept : Reply → Bool
is_kept InUse = true
is_kept _ = false

-- whether one stayed, here or later, unless it ended
abbrev pub with_kept : Bool → Result Bool Message → Result Bool Message
with_kept here (Ok later) = Ok (here || later)
with_kept here (Err message) = Err message

-- what is answered where none stayed, where one did, and where it ended
abbrev pub cleared_text : Result Bool Message → List ℕ
cleared_text (Ok false) = codes "\n"
cleared_text (Ok true) = message_text ItIsInUse
cleared_text (Err message) = message_text message

module _ {S : Type 0} (answers : Answering S) (refuses : Refusing S) (moment : ℕ) where
  -- the next entries are cleared, unless it ended
  abbrev pub ClearsOn : (S → Result Bool Message → S → Type 0) → List Reply → Option Message → S → Result Bool Message → S → Type 0
  ClearsOn next replies (Some message) old result new = (result ≡ Err message) × (new ≡ old)
  ClearsOn next replies None old result new =
      (shown : Reply) × (rest : Result Bool Message) × IsShown (total replies) shown × next old rest new × (result ≡ with_kept (is_kept shown) rest)

  -- the entry of each row is cleared, one after another, on the shard of its key
  abbrev pub ClearsEach : ℕ → List Row → S → Result Bool Message → S → Type 0
  ClearsEach shards [] old result new = (result ≡ Ok false) × (new ≡ old)
  ClearsEach shards (row ∷ rows) old result new =
      (replies : List Reply) × (end : Option Message) × (mid : S)
      × AsksInTurn answers refuses (Clear moment row.key) (shard row.key shards ∷ []) old replies end mid
      × ClearsOn (ClearsEach shards rows) replies end mid result new

  -- the entries of what is listed are cleared; or why it ended
  abbrev pub ClearsListed : List Comparison → ℕ → List Reply → Option Message → S → Result Bool Message → S → Type 0
  ClearsListed others shards replies (Some message) old result new = (result ≡ Err message) × (new ≡ old)
  ClearsListed others shards replies None old result new = (shown : Reply) × IsShown (total replies) shown × ClearsEach shards (rows_listed (narrowed others shown)) old result new

  -- each shard is asked for what the first filter means, and the entries whose rows match the others are cleared
  abbrev pub ClearsBy : Filter → List Comparison → ℕ → S → Result Bool Message → S → Type 0
  ClearsBy first others shards old result new =
      (replies : List Reply) × (end : Option Message) × (mid : S)
      × AsksInTurn answers refuses (ListRows moment first) (range_with_len 0 shards) old replies end mid
      × ClearsListed others shards replies end mid result new

  abbrev pub RemovesBy : Filter → List Comparison → ℕ → S → List ℕ → S → Type 0
  RemovesBy first others shards old text new = (result : Result Bool Message) × ClearsBy first others shards old result new × (text ≡ cleared_text result)

  -- ---- commands

  -- each shard is asked for what the first filter means, and the rows that match the others are printed
  abbrev pub ShowsBy : Filter → List Comparison → NamedState S → List ℕ → S → Type 0
  ShowsBy first others table text state =
      (replies : List Reply) × (end : Option Message)
      × AsksInTurn answers refuses (ListRows moment first) (range_with_len 0 table.shards) table.state replies end state
      × PrintsMatching others table.name table.spec replies end text

  abbrev pub DoesMatching : Deed → List Comparison → NamedState S → List ℕ → S → Type 0
  DoesMatching Show all table text state = ShowsBy (first_filter all) (other_filters all) table text state
  DoesMatching Remove all table text state = RemovesBy (first_filter all) (other_filters all) table.shards table.state text state

  -- where the table doesn't store what some filter compares, nothing is asked
  abbrev pub DoesIfStored : Bool → Deed → List Comparison → NamedState S → List ℕ → S → Type 0
  DoesIfStored true deed all table text state = DoesMatching deed all table text state
  DoesIfStored false deed all table text state = (text ≡ message_text NotStored) × (state ≡ table.state)

  -- a wrong filter is answered what is wrong
  abbrev pub DoesRead : Deed → Result (List Comparison) Message → NamedState S → List ℕ → S → Type 0
  DoesRead deed (Ok all) table text state = DoesIfStored (are_stored table.spec.columns all) deed all table text state
  DoesRead deed (Err message) table text state = (text ≡ message_text message) × (state ≡ table.state)

  -- the table at a place, if there is one; the others stay
  abbrev pub DoesAt : Deed → List (List ℕ) → Option ℕ → List (NamedState S) → List ℕ → List (NamedState S) → Type 0
  DoesAt deed words None old text new = (text ≡ message_text NoSuchTable) × (new ≡ old)
  DoesAt deed words (Some place) old text new =
      (table : NamedState S) × (state : S) × (read : Result (List Comparison) Message) × (table ≡ slice_index_or old place table)
      × ReadsComparisons words read × DoesRead deed read table text state × (new ≡ slice_set old place (record table { state = state }))

  -- what show table T or clear table T with several filters does, and what it is answered
  abbrev pub AnswersFiltered : Deed → Filtered → List (NamedState S) → List ℕ → List (NamedState S) → Type 0
  AnswersFiltered deed filtered old text new = DoesAt deed filtered.filters (place_of filtered.table old) old text new
