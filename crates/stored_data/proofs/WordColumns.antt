-- Data in words, column by column.
use Rattle.std.proofs.Common.{◌≡◌, ℕ, suc, zero, ◌+◌, ◌-◌, ◌*◌, ◌<◌, ◌≤◌, ◌==◌, ◌⊎◌, inl, inr, List, [], ◌∷◌, ◌++◌, Bool, true, false, cond, nat_lt, refl, sym, ap, subst, ◌∙◌, arith, length, get_or, drop, map, append_assoc, lit≤}
use Rattle.std.specs.Prelude.{slice_index, filter, if◌then◌else◌}
use Rattle.std.specs.List.{AllByRecursion}
use Rattle.std.proofs.lemmas.Bool.Decides.{nat_tests}
use Rattle.std.proofs.lemmas.List.{map-append}
use Rattle.std.proofs.lemmas.List.Elements.{filter-append}
use Rattle.std.proofs.lemmas.List.Sums.{sum_by-cons, sum_by-append}
use Rattle.stored_data.specs.Data.{place, is_rate, is_array}
use Rattle.stored_data.specs.Fields.{Element, element, elements_from, elements_of, elements, size}
use Rattle.stored_data.specs.Stored.{IsInOrder, IsCount, HaveCounts, IsSound}
use Rattle.stored_data.specs.Acts.{is_kept, zero_field, zero_of}
use Rattle.stored_data.specs.Words.{words_of, words_in, width, field_at, fields_from, edited, edited_index}
use Rattle.stored_data.proofs.Elements.{array_kept, elements-more, elements-at}
use Rattle.stored_data.proofs.Rows.{field_at-same, unedited}
use Rattle.stored_data.specs.declared.datum.Datum.{Datum}
use Rattle.stored_data.specs.declared.datum.Datum.TheVariants.{Gpt0}
use Rattle.stored_data.specs.declared.stored_set.Column.{Column}
use Rattle.stored_data.specs.declared.values.StoredValue.{StoredValue}
use Rattle.stored_data.specs.declared.words.Edit.{Edit}

-- ---- how many words
some_words : (column : Column) (first count : ℕ) → words_in (elements_from column first count) ≡ count * words_of (element column 0)
some_words column first zero = omega arith
some_words column first (suc count) =
    let rest : words_in (elements_from column (first + 1) count) ≡ count * words_of (element column 0) = some_words column (first + 1) count in
    let all : words_in (elements_from column first (suc count)) ≡ words_of (element column 0) + words_in (elements_from column (first + 1) count) = sum_by-cons words_of (element column first) (elements_from column (first + 1) count) in
    omega (arith, rest, all)

-- the words of a column: none of the current connections, two of a rate, and one of each other field
pub column_words : (column : Column) (kept : Bool) → is_kept (element column 0) ≡ kept → words_in (elements_of column) ≡ (if kept then (if is_rate column.datum then 2 else size column) else 0)
column_words column false is = some_words column 0 (size column) ∙ ap (λ b. size column * (if b then (if is_rate column.datum then 2 else 1) else 0)) is ∙ omega arith
column_words column true is =
    some_words column 0 (size column) ∙ ap (λ b. size column * (if b then (if is_rate column.datum then 2 else 1) else 0)) is ∙ by_array (is_array column.datum) refl
  where
    by_array : (array : Bool) → is_array column.datum ≡ array
        → (if array then column.count else 1) * (if is_rate column.datum then 2 else 1) ≡ (if is_rate column.datum then 2 else (if array then column.count else 1))
    by_array true array = rw ((array_kept column.datum array).0) (omega arith)
    by_array false array = by_rate (is_rate column.datum)
      where
        by_rate : (rate : Bool) → ◌≡◌ {A = ℕ} (1 * (if rate then 2 else 1)) (if rate then 2 else 1)
        by_rate true = refl
        by_rate false = refl

-- the words of the i-th column, then of those behind it
pub width-at : (columns : List Column) (i : ℕ) (d : Column) → i < length columns → width (drop i columns) ≡ words_in (elements_of (get_or columns i d)) + width (drop (i + 1) columns)
width-at columns i d inside = ap words_in (elements-at columns i d inside) ∙ sum_by-append words_of (elements_of (get_or columns i d)) (elements (drop (i + 1) columns))

-- a place is a byte, so that columns in order are at most 255, and take at most 25,500 words
least : (datum : Datum) → 1 ≤ place datum
least Gpt0 = lit≤ tt
least _ = lit≤ tt

last : (datum : Datum) → place datum ≤ 255
last Gpt0 = lit≤ tt
last _ = lit≤ tt

place-le : (column : Column) → place column.datum ≤ 255
place-le column = last column.datum

few : (columns : List Column) (before : ℕ) → before ≤ 255 → AllByRecursion (λ column. before < place column.datum) columns → IsInOrder columns → length columns + before ≤ 255
few [] before le later in_order = omega (arith, le)
few (column ∷ columns) before le later in_order =
    let rest = few columns (place column.datum) (place-le column) in_order.0 in_order.1 in
    omega (arith, rest, later.0)

words-le : (column : Column) → IsCount (is_array column.datum) column.count → words_in (elements_of column) ≤ 100
words-le column counted = by_kept (is_kept (element column 0)) refl
  where
    size-le : (array : Bool) → IsCount array column.count → (if array then column.count else 1) ≤ 100
    size-le true h = h.1
    size-le false h = omega arith

    by_kept : (kept : Bool) → is_kept (element column 0) ≡ kept → words_in (elements_of column) ≤ 100
    by_kept false is = omega (arith, column_words column false is)
    by_kept true is = by_rate (is_rate column.datum) (column_words column true is)
      where
        by_rate : (rate : Bool) → words_in (elements_of column) ≡ (if rate then 2 else size column) → words_in (elements_of column) ≤ 100
        by_rate true words = omega (arith, words)
        by_rate false words = omega (arith, words, size-le (is_array column.datum) counted)

width-le : (columns : List Column) → HaveCounts columns → width columns ≤ 100 * length columns
width-le [] counts = omega arith
width-le (column ∷ columns) counts =
    omega (arith, sum_by-append words_of (elements_of column) (elements columns), words-le column counts.0, width-le columns counts.1)

after_none : (columns : List Column) → AllByRecursion (λ column. 0 < place column.datum) columns
after_none [] = tt
after_none (column ∷ columns) = (least column.datum, after_none columns)

pub narrow : (columns : List Column) → IsSound columns → width columns ≤ 25500
narrow columns sound = omega (arith, width-le columns sound.counts, few columns 0 (omega arith) (after_none columns) sound.in_order)

-- ---- data of elements joined, and in other words
pub fields_from-append : (all later : List Element) (words : List ℕ) (at : ℕ) → fields_from (all ++ later) words at ≡ fields_from all words at ++ fields_from later words (at + words_in all)
fields_from-append [] later words at = ap (λ n. fields_from later words n) (omega arith)
fields_from-append (one ∷ all) later words at = by_kept (is_kept one) (fields_from-append all later words (at + words_of one))
  where
    sums : at + words_of one + words_in all ≡ at + words_in (one ∷ all)
    sums = omega (arith, sum_by-cons words_of one all)

    by_kept : (b : Bool) → fields_from (all ++ later) words (at + words_of one) ≡ fields_from all words (at + words_of one) ++ fields_from later words (at + words_of one + words_in all)
        → cond b (field_at one words at ∷ fields_from (all ++ later) words (at + words_of one)) (fields_from (all ++ later) words (at + words_of one))
        ≡ cond b (field_at one words at ∷ fields_from all words (at + words_of one)) (fields_from all words (at + words_of one)) ++ fields_from later words (at + words_in (one ∷ all))
    by_kept true rest = ap (λ fs. field_at one words at ∷ fs) rest ∙ ap (λ n. field_at one words at ∷ (fields_from all words (at + words_of one) ++ fields_from later words n)) sums
    by_kept false rest = rest ∙ ap (λ n. fields_from all words (at + words_of one) ++ fields_from later words n) sums

pub fields_from-same : (all : List Element) (old new : List ℕ) (at : ℕ) → ((k : ℕ) → at ≤ k → k < at + words_in all → slice_index new k ≡ slice_index old k) → fields_from all new at ≡ fields_from all old at
fields_from-same [] old new at same = refl
fields_from-same (one ∷ all) old new at same =
    let sums = sum_by-cons words_of one all in
    by_kept (is_kept one) refl sums (fields_from-same all old new (at + words_of one) (λ k from to. same k (omega (arith, from)) (omega (arith, sums, to))))
  where
    by_kept : (b : Bool) → is_kept one ≡ b → words_in (one ∷ all) ≡ words_of one + words_in all → fields_from all new (at + words_of one) ≡ fields_from all old (at + words_of one)
        → cond b (field_at one new at ∷ fields_from all new (at + words_of one)) (fields_from all new (at + words_of one))
        ≡ cond b (field_at one old at ∷ fields_from all old (at + words_of one)) (fields_from all old (at + words_of one))
    by_kept true is sums rest = ap (λ f. f ∷ fields_from all new (at + words_of one)) (field_at-same one old new at is (λ k from to. same k from (omega (arith, sums, to)))) ∙ ap (λ fs. field_at one old at ∷ fs) rest
    by_kept false is sums rest = rest

-- a column of several elements is an array
pub several : (column : Column) → is_kept (element column 0) ≡ true → 2 ≤ size column → words_of (element column 0) ≡ 1
several column kept more = by_array (is_array column.datum) refl more
  where
    by_array : (array : Bool) → is_array column.datum ≡ array → 2 ≤ (if array then column.count else 1) → words_of (element column 0) ≡ 1
    by_array true array many = ap (λ b. if b then (if is_rate column.datum then 2 else 1) else 0) kept ∙ ap (λ b. if b then 2 else 1) ((array_kept column.datum array).0)
    by_array false array many = absurd (omega (arith, many))

-- ---- an edit of one column
-- of a column of which nothing is kept there are no data
pub nothing_kept : (column : Column) (first count : ℕ) (words : List ℕ) (at : ℕ) → is_kept (element column 0) ≡ false → fields_from (elements_from column first count) words at ≡ []
nothing_kept column first zero words at none = refl
nothing_kept column first (suc count) words at none =
    ap (λ b. cond b (field_at (element column first) words at ∷ fields_from (elements_from column (first + 1) count) words (at + words_of (element column first))) (fields_from (elements_from column (first + 1) count) words (at + words_of (element column first)))) none
    ∙ nothing_kept column (first + 1) count words (at + words_of (element column first)) none

-- an edit that leaves what is stored of each element leaves the elements
leaves_each : (column : Column) (edit : Edit) (first count : ℕ) (words : List ℕ) (at : ℕ) →
    ((k n : ℕ) → k < first + count → edited edit (field_at (element column k) words n) ≡ field_at (element column k) words n) →
    fields_from (elements_from column first count) words at ≡ map (edited edit) (fields_from (elements_from column first count) words at)
leaves_each column edit first zero words at leaves = refl
leaves_each column edit first (suc count) words at leaves =
    by_kept (is_kept (element column first)) (leaves_each column edit (first + 1) count words (at + words_of (element column first)) (λ k n below. leaves k n (omega arith)))
  where
    by_kept : (b : Bool) → fields_from (elements_from column (first + 1) count) words (at + words_of (element column first)) ≡ map (edited edit) (fields_from (elements_from column (first + 1) count) words (at + words_of (element column first)))
        → cond b (field_at (element column first) words at ∷ fields_from (elements_from column (first + 1) count) words (at + words_of (element column first))) (fields_from (elements_from column (first + 1) count) words (at + words_of (element column first)))
        ≡ map (edited edit) (cond b (field_at (element column first) words at ∷ fields_from (elements_from column (first + 1) count) words (at + words_of (element column first))) (fields_from (elements_from column (first + 1) count) words (at + words_of (element column first))))
    by_kept true rest =
        ap (λ f. f ∷ fields_from (elements_from column (first + 1) count) words (at + words_of (element column first))) (sym (leaves first at (omega arith)))
        ∙ ap (λ fs. edited edit (field_at (element column first) words at) ∷ fs) rest
    by_kept false rest = rest

-- so one that leaves what is kept of the datum leaves the column
pub leaves_all : (column : Column) (edit : Edit) (words : List ℕ) (at : ℕ) → ((stored : StoredValue) → stored.field.datum ≡ column.datum → edited edit stored ≡ stored) →
    fields_from (elements_of column) words at ≡ map (edited edit) (fields_from (elements_of column) words at)
leaves_all column edit words at leaves = leaves_each column edit 0 (size column) words at (λ k n below. leaves (field_at (element column k) words n) refl)

-- and so does one of an index past those of its elements
pub past_all : (column : Column) (edit : Edit) (words : List ℕ) (at : ℕ) → size column ≤ edited_index edit column.datum →
    fields_from (elements_of column) words at ≡ map (edited edit) (fields_from (elements_of column) words at)
past_all column edit words at past = leaves_each column edit 0 (size column) words at (λ k n below. unedited edit (field_at (element column k) words n) (other k (omega arith)))
  where
    other : (k : ℕ) → k < edited_index edit column.datum → (k == edited_index edit column.datum) ≡ false
    other k lt = grind (arith, nat_tests)

-- elements of a word each, of which one is edited, and all other words stay
array-edited : (column : Column) (edit : Edit) (old new : List ℕ) (base index first count : ℕ) → is_kept (element column 0) ≡ true → is_rate column.datum ≡ false → index ≡ edited_index edit column.datum →
    field_at (element column index) new (base + index) ≡ edited edit (field_at (element column index) old (base + index)) →
    ((k : ℕ) → (k == index) ≡ false → slice_index new (base + k) ≡ slice_index old (base + k)) →
    fields_from (elements_from column first count) new (base + first) ≡ map (edited edit) (fields_from (elements_from column first count) old (base + first))
array-edited column edit old new base index first zero kept number is field elsewhere = refl
array-edited column edit old new base index first (suc count) kept number is field elsewhere =
    split new ∙ ap (λ f. f ∷ fields_from (elements_from column (first + 1) count) new (base + (first + 1))) (here (first == index) refl)
    ∙ ap (λ fs. edited edit (field_at (element column first) old (base + first)) ∷ fs) (array-edited column edit old new base index (first + 1) count kept number is field elsewhere)
    ∙ sym (ap (map (edited edit)) (split old))
  where
    one_word : words_of (element column first) ≡ 1
    one_word = ap (λ b. if b then (if is_rate column.datum then 2 else 1) else 0) kept ∙ ap (λ b. if b then 2 else 1) number

    next : base + first + words_of (element column first) ≡ base + (first + 1)
    next = omega (arith, one_word)

    split : (words : List ℕ) → fields_from (elements_from column first (suc count)) words (base + first) ≡ field_at (element column first) words (base + first) ∷ fields_from (elements_from column (first + 1) count) words (base + (first + 1))
    split words =
        ap (λ b. cond b (field_at (element column first) words (base + first) ∷ fields_from (elements_from column (first + 1) count) words (base + first + words_of (element column first))) (fields_from (elements_from column (first + 1) count) words (base + first + words_of (element column first)))) kept
        ∙ ap (λ n. field_at (element column first) words (base + first) ∷ fields_from (elements_from column (first + 1) count) words n) next

    here : (b : Bool) → (first == index) ≡ b → field_at (element column first) new (base + first) ≡ edited edit (field_at (element column first) old (base + first))
    here true same =
        let one : first ≡ index = grind (arith, nat_tests) in
        subst (λ k. field_at (element column k) new (base + k) ≡ edited edit (field_at (element column k) old (base + k))) (sym one) field
    here false other =
        field_at-same (element column first) old new (base + first) kept (λ k from to.
        let at : base + first ≡ k = omega (arith, one_word, from, to) in
        subst (λ n. slice_index new n ≡ slice_index old n) at (elsewhere first other))
        ∙ sym (unedited edit (field_at (element column first) old (base + first)) (ap (λ n. first == n) (sym is) ∙ other))

-- a column's words after an edit of one of its fields
pub column-edited : (column : Column) (edit : Edit) (old new : List ℕ) (at index : ℕ) → is_kept (element column 0) ≡ true → index ≡ edited_index edit column.datum → index < size column →
    field_at (element column index) new (at + index) ≡ edited edit (field_at (element column index) old (at + index)) →
    ((k : ℕ) → (k < at + index) ⊎ (at + index + words_of (element column index) ≤ k) → slice_index new k ≡ slice_index old k) →
    fields_from (elements_of column) new at ≡ map (edited edit) (fields_from (elements_of column) old at)
column-edited column edit old new at index kept is inside field elsewhere = by_array (is_array column.datum) refl inside
  where
    base : at + 0 ≡ at
    base = omega arith

    apart : is_rate column.datum ≡ false → (k : ℕ) → (k == index) ≡ false → slice_index new (at + k) ≡ slice_index old (at + k)
    apart number k other =
        let one_word : words_of (element column index) ≡ 1 = ap (λ b. if b then (if is_rate column.datum then 2 else 1) else 0) kept ∙ ap (λ b. if b then 2 else 1) number in
        by_side (nat_lt k index) refl one_word
      where
        by_side : (b : Bool) → nat_lt k index ≡ b → words_of (element column index) ≡ 1 → slice_index new (at + k) ≡ slice_index old (at + k)
        by_side true before one_word = let lt : k < index = grind (arith, nat_tests) in elsewhere (at + k) (inl (omega (arith, lt)))
        by_side false behind one_word = let lt : index < k = grind (arith, nat_tests) in elsewhere (at + k) (inr (omega (arith, lt, one_word)))

    by_array : (array : Bool) → is_array column.datum ≡ array → index < (if array then column.count else 1) → fields_from (elements_from column 0 (if array then column.count else 1)) new at ≡ map (edited edit) (fields_from (elements_from column 0 (if array then column.count else 1)) old at)
    by_array true array below =
        subst (λ n. fields_from (elements_from column 0 column.count) new n ≡ map (edited edit) (fields_from (elements_from column 0 column.count) old n)) base
        (array-edited column edit old new at index 0 column.count kept ((array_kept column.datum array).0) is field (apart ((array_kept column.datum array).0)))
    by_array false array below =
        let only : index ≡ 0 = omega (arith, below) in
        let here : field_at (element column 0) new at ≡ edited edit (field_at (element column 0) old at) =
        subst (λ n. field_at (element column 0) new n ≡ edited edit (field_at (element column 0) old n)) base
        (subst (λ k. field_at (element column k) new (at + k) ≡ edited edit (field_at (element column k) old (at + k))) only field) in
        ap (λ b. cond b (field_at (element column 0) new at ∷ []) []) kept ∙ ap (λ f. f ∷ []) here ∙ sym (ap (λ b. map (edited edit) (cond b (field_at (element column 0) old at ∷ []) [])) kept)

-- the element that is edited lies in its column's words
pub inside_column : (column : Column) (index : ℕ) → is_kept (element column 0) ≡ true → index < size column → index + words_of (element column index) ≤ words_in (elements_of column)
inside_column column index kept inside = by_array (is_array column.datum) refl inside
  where
    by_array : (array : Bool) → is_array column.datum ≡ array → index < (if array then column.count else 1) → index + words_of (element column index) ≤ words_in (elements_of column)
    by_array true array below =
        let number : is_rate column.datum ≡ false = (array_kept column.datum array).0 in
        let one_word : words_of (element column index) ≡ 1 = ap (λ b. if b then (if is_rate column.datum then 2 else 1) else 0) kept ∙ ap (λ b. if b then 2 else 1) number in
        let all : words_in (elements_of column) ≡ column.count = column_words column true kept ∙ ap (λ b. if b then 2 else size column) number ∙ ap (λ b. if b then column.count else 1) array in
        omega (arith, one_word, all, below)
    by_array false array below =
        let all : words_in (elements_of column) ≡ 1 * words_of (element column 0) = some_words column 0 (size column) ∙ ap (λ b. (if b then column.count else 1) * words_of (element column 0)) array in
        omega (arith, all, below)

-- ---- an edit of all columns
-- one column more is as it is to be: then so are it and those that are left, where these are
pub edit-one : (column : Column) (later : List Element) (edit : Edit) (first old new words : List ℕ) (at : ℕ) →
    ((k : ℕ) → at ≤ k → slice_index old k ≡ slice_index first k) →
    fields_from (elements_of column) new at ≡ map (edited edit) (fields_from (elements_of column) old at) →
    ((k : ℕ) → k < at + words_in (elements_of column) → slice_index words k ≡ slice_index new k) →
    fields_from later words (at + words_in (elements_of column)) ≡ map (edited edit) (fields_from later first (at + words_in (elements_of column))) →
    fields_from (elements_of column ++ later) words at ≡ map (edited edit) (fields_from (elements_of column ++ later) first at)
edit-one column later edit first old new words at left fields below rest =
    fields_from-append (elements_of column) later words at
    ∙ ap (λ fs. fs ++ fields_from later words (at + words_in (elements_of column)))
    (fields_from-same (elements_of column) new words at (λ k from to. below k to) ∙ fields ∙ ap (map (edited edit)) (fields_from-same (elements_of column) first old at (λ k from to. left k from)))
    ∙ ap (λ fs. map (edited edit) (fields_from (elements_of column) first at) ++ fs) rest
    ∙ sym (map-append (edited edit) (fields_from (elements_of column) first at) (fields_from later first (at + words_in (elements_of column))))
    ∙ sym (ap (map (edited edit)) (fields_from-append (elements_of column) later first at))

-- the same of the columns from the i-th on
pub edit-more : (columns : List Column) (i : ℕ) (d : Column) (edit : Edit) (first old new words : List ℕ) (at after : ℕ) → i < length columns → after ≡ at + words_in (elements_of (get_or columns i d)) →
    ((k : ℕ) → at ≤ k → slice_index old k ≡ slice_index first k) →
    fields_from (elements_of (get_or columns i d)) new at ≡ map (edited edit) (fields_from (elements_of (get_or columns i d)) old at) →
    ((k : ℕ) → k < after → slice_index words k ≡ slice_index new k) →
    fields_from (elements (drop (i + 1) columns)) words after ≡ map (edited edit) (fields_from (elements (drop (i + 1) columns)) first after) →
    fields_from (elements (drop i columns)) words at ≡ map (edited edit) (fields_from (elements (drop i columns)) first at)
edit-more columns i d edit first old new words at after inside is left fields below rest =
    subst (λ all. fields_from all words at ≡ map (edited edit) (fields_from all first at)) (sym (elements-at columns i d inside))
    (edit-one (get_or columns i d) (elements (drop (i + 1) columns)) edit first old new words at left fields (λ k h. below k (subst (λ m. k < m) (sym is) h))
    (subst (λ m. fields_from (elements (drop (i + 1) columns)) words m ≡ map (edited edit) (fields_from (elements (drop (i + 1) columns)) first m)) is rest))

-- the data of the columns from the i-th on
pub fields-at : (columns : List Column) (i : ℕ) (d : Column) (words : List ℕ) (at : ℕ) → i < length columns →
    fields_from (elements (drop i columns)) words at
    ≡ fields_from (elements_of (get_or columns i d)) words at ++ fields_from (elements (drop (i + 1) columns)) words (at + words_in (elements_of (get_or columns i d)))
fields-at columns i d words at inside =
    ap (λ all. fields_from all words at) (elements-at columns i d inside) ∙ fields_from-append (elements_of (get_or columns i d)) (elements (drop (i + 1) columns)) words at

-- ---- what was joined so far, with one more
-- of a column's elements
pub elements-joined : (column : Column) (kept : List StoredValue) (words : List ℕ) (at index : ℕ) → is_kept (element column 0) ≡ true → index < size column →
    (kept ++ field_at (element column index) words (at + index) ∷ []) ++ fields_from (elements_from column (index + 1) (size column - (index + 1))) words (at + (index + 1))
    ≡ kept ++ fields_from (elements_from column index (size column - index)) words (at + index)
elements-joined column kept words at index is inside =
    append_assoc kept (field_at (element column index) words (at + index) ∷ []) (fields_from (elements_from column (index + 1) (size column - (index + 1))) words (at + (index + 1)))
    ∙ ap (λ fs. kept ++ field_at (element column index) words (at + index) ∷ fs) (by_count (size column - (index + 1)) refl)
    ∙ sym (ap (λ b. kept ++ cond b (field_at (element column index) words (at + index) ∷ later) later) is)
    ∙ ap (λ all. kept ++ fields_from all words (at + index)) (sym (elements-more column index (size column) inside))
  where
    later : List StoredValue
    later = fields_from (elements_from column (index + 1) (size column - (index + 1))) words (at + index + words_of (element column index))

    by_count : (count : ℕ) → size column - (index + 1) ≡ count
        → fields_from (elements_from column (index + 1) count) words (at + (index + 1)) ≡ fields_from (elements_from column (index + 1) count) words (at + index + words_of (element column index))
    by_count zero left = refl
    by_count (suc count) left =
        let one_word : words_of (element column 0) ≡ 1 = several column is (omega (arith, left)) in
        ap (λ n. fields_from (elements_from column (index + 1) (suc count)) words n) (omega (arith, one_word))

pub zeros-joined : (column : Column) (kept : List StoredValue) (index : ℕ) → is_kept (element column 0) ≡ true → index < size column →
    (kept ++ zero_field (element column index) ∷ []) ++ map zero_field (filter is_kept (elements_from column (index + 1) (size column - (index + 1))))
    ≡ kept ++ map zero_field (filter is_kept (elements_from column index (size column - index)))
zeros-joined column kept index is inside =
    append_assoc kept (zero_field (element column index) ∷ []) (map zero_field (filter is_kept rest))
    ∙ sym (ap (λ b. kept ++ map zero_field (cond b (element column index ∷ filter is_kept rest) (filter is_kept rest))) is)
    ∙ ap (λ all. kept ++ map zero_field (filter is_kept all)) (sym (elements-more column index (size column) inside))
  where
    rest : List Element
    rest = elements_from column (index + 1) (size column - (index + 1))

-- of columns
pub fields-joined : (columns : List Column) (i : ℕ) (d : Column) (kept : List StoredValue) (words : List ℕ) (at : ℕ) → i < length columns →
    (kept ++ fields_from (elements_of (get_or columns i d)) words at) ++ fields_from (elements (drop (i + 1) columns)) words (at + words_in (elements_of (get_or columns i d)))
    ≡ kept ++ fields_from (elements (drop i columns)) words at
fields-joined columns i d kept words at inside =
    append_assoc kept (fields_from (elements_of (get_or columns i d)) words at) (fields_from (elements (drop (i + 1) columns)) words (at + words_in (elements_of (get_or columns i d))))
    ∙ sym (ap (λ fs. kept ++ fs) (fields-at columns i d words at inside))

pub zero_of-joined : (columns : List Column) (i : ℕ) (d : Column) (kept : List StoredValue) → i < length columns →
    (kept ++ map zero_field (filter is_kept (elements_of (get_or columns i d)))) ++ zero_of (drop (i + 1) columns) ≡ kept ++ zero_of (drop i columns)
zero_of-joined columns i d kept inside =
    append_assoc kept (map zero_field (filter is_kept one)) (zero_of (drop (i + 1) columns))
    ∙ sym (ap (λ fs. kept ++ fs) (ap (λ all. map zero_field (filter is_kept all)) (elements-at columns i d inside) ∙ ap (map zero_field) (filter-append is_kept one later) ∙ map-append zero_field (filter is_kept one) (filter is_kept later)))
  where
    one : List Element
    one = elements_of (get_or columns i d)

    later : List Element
    later = elements (drop (i + 1) columns)
