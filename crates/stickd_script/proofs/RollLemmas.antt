-- What a roll leaves of tables.
use Rattle.std.proofs.Common.{◌≡◌, ◌⊎◌, inl, inr, ℕ, zero, suc, ◌+◌, Bool, true, false, List, [], ◌∷◌, ◌++◌, Some, length, map, take, drop, slice_get, refl, sym, ap, ◌∙◌, subst}
use Rattle.std.specs.Prelude.{slice_set, if◌then◌else◌}
use Rattle.std.proofs.lemmas.List.{length-map}
use Rattle.std.specs.List.{AllByRecursion}
use Rattle.shard_book.specs.BookState.{BookState, rolled}
use Rattle.shard_book.specs.BooksState.{AreBooks, BooksState}
use Rattle.shard_book.specs.Rolling.{rolled_books, rolled_first}
use Rattle.shard_book.specs.declared.named.Named.{Named}
use Rattle.shard_book.proofs.RollLemmas.{all_rolled, length-rolled_first, rolled_are_books}
use Rattle.admit_drive.specs.Tables.{TableState, shard_at, shard_of, table_states}
use Rattle.stickd_script.specs.Guests.{ScriptState}
use Rattle.stickd_script.specs.Rolling.{RecordsLaw, RefusesRoll, TableRolls, TablesRoll, is_due, rolled_named}

-- ---- the books of a table

pub rolled_books_first : (table : BooksState) → rolled_books table ≡ record table { books = rolled_first (length table.books) table.books }
rolled_books_first table = ap (λ (bs : List BookState). record table { books = bs }) (all_rolled table.books)

-- what a roll of a book leaves, a roll of the first books of a table leaves
pub map_rolled : {X : Type 0} (f : BookState → X) → ((book : BookState) → f (rolled book) ≡ f book) → (count : ℕ) (books : List BookState) → map f (rolled_first count books) ≡ map f books
map_rolled f same zero books = refl
map_rolled f same (suc count) [] = refl
map_rolled f same (suc count) (book ∷ books) = λ k. same book k ∷ map_rolled f same count books k

shard_rolled : (count : ℕ) (books : List BookState) (part : ℕ) → shard_of (rolled_first count books) part ≡ shard_of books part
shard_rolled zero books part = refl
shard_rolled (suc count) [] part = refl
shard_rolled (suc count) (book ∷ books) zero = refl
shard_rolled (suc count) (book ∷ books) (suc part) = shard_rolled count books part

-- ---- tables

-- where the first books of a table are rolled
abbrev pub part_rolled : ℕ → TableState → TableState
part_rolled count table = record table { state = record table.state { books = rolled_first count table.state.books } }

-- a table that rolls is as it was, or its first books are rolled
pub rolls_first : (old new : TableState) → TableRolls old new → (new ≡ old) ⊎ ((count : ℕ) × (new ≡ part_rolled count old))
rolls_first old new (inl same) = inl same
rolls_first old new (inr (state, is, due, inl all)) = inr (length old.state.books, is ∙ ap (λ (s : BooksState). record old { state = s }) (all ∙ rolled_books_first old.state))
rolls_first old new (inr (state, is, due, inr part)) = inr (part.count, is ∙ ap (λ (s : BooksState). record old { state = s }) part.books)

one_kept : {P : TableState → Type 0} → ((count : ℕ) (table : TableState) → P table → P (part_rolled count table)) → (old new : TableState) → TableRolls old new → P old → P new
one_kept {P} keeps old new rolls has = by (rolls_first old new rolls)
  where
    by : (new ≡ old) ⊎ ((count : ℕ) × (new ≡ part_rolled count old)) → P new
    by (inl same) = subst P (sym same) has
    by (inr part) = subst P (sym part.1) (keeps part.0 old has)

-- what holds of each table, holds of each behind a roll
pub all_kept : {P : TableState → Type 0} → ((count : ℕ) (table : TableState) → P table → P (part_rolled count table)) → (old new : List TableState) → TablesRoll old new → AllByRecursion P old → AllByRecursion P new
all_kept keeps [] [] rolls all = tt
all_kept keeps [] (new ∷ later) rolls all = absurd rolls
all_kept keeps (old ∷ tables) [] rolls all = absurd rolls
all_kept {P} keeps (old ∷ tables) (new ∷ later) rolls all = (one_kept {P = P} keeps old new rolls.0 all.0, all_kept {P = P} keeps tables later rolls.1 all.1)

-- and so does what is known of each
pub map_kept : {X : Type 0} (f : TableState → X) → ((count : ℕ) (table : TableState) → f (part_rolled count table) ≡ f table) → (old new : List TableState) → TablesRoll old new → map f new ≡ map f old
map_kept f same [] [] rolls = refl
map_kept f same [] (new ∷ later) rolls = absurd rolls
map_kept f same (old ∷ tables) [] rolls = absurd rolls
map_kept f same (old ∷ tables) (new ∷ later) rolls =
    let first : f new ≡ f old = one_kept {P = λ (t : TableState). f t ≡ f old} (λ count table is. same count table ∙ is) old new rolls.0 refl in
    λ k. first k ∷ map_kept f same tables later rolls.1 k

-- every shard is what it was
pub shards_kept : (old new : List TableState) → TablesRoll old new → (table part : ℕ) → shard_at new table part ≡ shard_at old table part
shards_kept [] [] rolls table part = refl
shards_kept [] (new ∷ later) rolls table part = absurd rolls
shards_kept (old ∷ tables) [] rolls table part = absurd rolls
shards_kept (old ∷ tables) (new ∷ later) rolls zero part = one_kept {P = λ (t : TableState). shard_of t.state.books part ≡ shard_of old.state.books part} (λ count table is. shard_rolled count table.state.books part ∙ is) old new rolls.0 refl
shards_kept (old ∷ tables) (new ∷ later) rolls (suc table) part = shards_kept tables later rolls.1 table part

pub records-law : RecordsLaw
records-law said new rolls = record {
  setup = ap (λ (s : ScriptState). s.setup) rolls.others;
  guests = ap (λ (s : ScriptState). s.guests) rolls.others;
  shards = shards_kept said.tables new.tables rolls.tables;
}

pub books_kept : (count : ℕ) (table : TableState) → AreBooks table.state → AreBooks (part_rolled count table).state
books_kept count table are = rolled_are_books count table.state are

pub none_rolls : (tables : List TableState) → TablesRoll tables tables
none_rolls [] = tt
none_rolls (table ∷ tables) = (inl refl, none_rolls tables)

-- ---- the loop

abbrev pub state_named : Named BooksState → TableState
state_named named = record { name = named.name; spec = named.keeper.spec; shards = length named.keeper.books; state = named.keeper }

refused_rolls : (old new : Named BooksState) → new.name ≡ old.name → RefusesRoll old.keeper new.keeper → TableRolls (state_named old) (state_named new)
refused_rolls old new name refused = inr (new.keeper, same, refused.0, inr refused.1)
  where
    spec : new.keeper.spec ≡ old.keeper.spec
    spec = ap (λ (b : BooksState). b.spec) refused.1.books

    count : length new.keeper.books ≡ length old.keeper.books
    count = ap (λ (b : BooksState). length b.books) refused.1.books ∙ length-rolled_first refused.1.count old.keeper.books

    same : state_named new ≡ record (state_named old) { state = new.keeper }
    same = λ k. record { name = name k; spec = spec k; shards = count k; state = new.keeper }

due_rolls : (old : Named BooksState) → TableRolls (state_named old) (state_named (rolled_named old))
due_rolls old = by (is_due old.keeper) refl
  where
    by : (due : Bool) → is_due old.keeper ≡ due → TableRolls (state_named old) (state_named (rolled_named old))
    by false is = inl (ap (λ (b : Bool). state_named (record old { keeper = if b then rolled_books old.keeper else old.keeper })) is)
    by true is =
        let counted : length (map rolled old.keeper.books) ≡ length old.keeper.books = length-map old.keeper.books rolled in
        inr (
          rolled_books old.keeper,
          ap (λ (b : Bool). state_named (record old { keeper = if b then rolled_books old.keeper else old.keeper })) is
              ∙ (λ k. record { name = old.name; spec = old.keeper.spec; shards = counted k; state = rolled_books old.keeper }),
          is,
          inl refl,
        )

-- those before a place rolled when due, and the others as they were
abbrev pub rolled_before : ℕ → List (Named BooksState) → List (Named BooksState)
rolled_before place tables = map rolled_named (take place tables) ++ drop place tables

pub before_rolls : (place : ℕ) (tables : List (Named BooksState)) → TablesRoll (table_states tables) (table_states (rolled_before place tables))
before_rolls zero tables = none_rolls (table_states tables)
before_rolls (suc place) [] = tt
before_rolls (suc place) (table ∷ tables) = (due_rolls table, before_rolls place tables)

some_of : {X : Type 0} (x y : X) → Some x ≡ Some y → x ≡ y
some_of x y e = cc

-- a table of which a copy was refused, behind those that are rolled
pub refused_at : (place : ℕ) (old : List (Named BooksState)) (before after : Named BooksState) → slice_get (rolled_before place old) place ≡ Some before → after.name ≡ before.name → RefusesRoll before.keeper after.keeper
    → TablesRoll (table_states old) (table_states (slice_set (rolled_before place old) place after))
refused_at zero [] before after at name refused = cc
refused_at zero (table ∷ tables) before after at name refused =
    let same : before ≡ table = sym (some_of table before at) in
    (subst (λ (t : Named BooksState). TableRolls (state_named t) (state_named after)) same (refused_rolls before after name refused), none_rolls (table_states tables))
refused_at (suc place) [] before after at name refused = cc
refused_at (suc place) (table ∷ tables) before after at name refused = (due_rolls table, refused_at place tables before after at name refused)

pub length-rolled_before : (place : ℕ) (tables : List (Named BooksState)) → length (rolled_before place tables) ≡ length tables
length-rolled_before zero tables = refl
length-rolled_before (suc place) [] = refl
length-rolled_before (suc place) (table ∷ tables) = ap suc (length-rolled_before place tables)
