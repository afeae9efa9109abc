-- A field is found in words by its column.
use Rattle.std.proofs.Common.{◌≡◌, ℕ, suc, zero, ◌+◌, ◌<◌, ◌≤◌, ◌==◌, List, ◌∷◌, Bool, true, false, cond, nat_lt, refl, ap, subst, ◌∙◌, arith, length, get_or, drop, Some, None}
use Rattle.std.specs.Prelude.{find, ◌&&◌}
use Rattle.std.specs.Option.{option_or}
use Rattle.std.proofs.lemmas.Bool.{and_parts}
use Rattle.std.proofs.lemmas.Bool.Decides.{nat_tests}
use Rattle.std.proofs.lemmas.List.Folds.{find-append}
use Rattle.stored_data.specs.Data.{place}
use Rattle.stored_data.specs.Fields.{element, elements_from, elements_of, elements, size, same_field}
use Rattle.stored_data.specs.Acts.{is_kept}
use Rattle.stored_data.specs.Words.{is_kept_in, words_of, words_in, field_at, fields_from}
use Rattle.stored_data.proofs.SameFields.{same_places, other_place, other_index}
use Rattle.stored_data.proofs.WordColumns.{several, nothing_kept, fields-at}
use Rattle.stored_data.specs.declared.field.Field.{Field}
use Rattle.stored_data.specs.declared.stored_set.Column.{Column}
use Rattle.stored_data.specs.declared.values.StoredValue.{StoredValue}

abbrev is_of : Field → StoredValue → Bool
is_of field stored = same_field stored.field field

-- where no element's field is the one that is looked for, it isn't found
none_of : (column : Column) (field : Field) (words : List ℕ) (first count at : ℕ) → ((k : ℕ) → k < first + count → same_field (element column k).field field ≡ false) →
    find (is_of field) (fields_from (elements_from column first count) words at) ≡ None
none_of column field words first zero at others = refl
none_of column field words first (suc count) at others = by_kept (is_kept (element column first)) (none_of column field words (first + 1) count (at + words_of (element column first)) (λ k below. others k (omega arith)))
  where
    by_kept : (b : Bool) → find (is_of field) (fields_from (elements_from column (first + 1) count) words (at + words_of (element column first))) ≡ None
        → find (is_of field) (cond b (field_at (element column first) words at ∷ fields_from (elements_from column (first + 1) count) words (at + words_of (element column first))) (fields_from (elements_from column (first + 1) count) words (at + words_of (element column first)))) ≡ None
    by_kept true rest =
        ap (λ b. cond b (Some (field_at (element column first) words at)) (find (is_of field) (fields_from (elements_from column (first + 1) count) words (at + words_of (element column first))))) (others first (omega arith)) ∙ rest
    by_kept false rest = rest

-- among elements of a word each the one of the index is found
one_of : (column : Column) (field : Field) (words : List ℕ) (base first count : ℕ) → is_kept (element column 0) ≡ true → (2 ≤ count → words_of (element column 0) ≡ 1) →
    (place column.datum == place field.datum) ≡ true → first ≤ field.index → field.index < first + count →
    find (is_of field) (fields_from (elements_from column first count) words (base + first)) ≡ Some (field_at (element column field.index) words (base + field.index))
one_of column field words base first zero kept word same from to = absurd (omega arith)
one_of column field words base first (suc count) kept word same from to =
    ap (λ b. find (is_of field) (cond b (field_at (element column first) words (base + first) ∷ later) later)) kept
    ∙ ap (λ b. cond b (Some (field_at (element column first) words (base + first))) (find (is_of field) later)) (same_places (element column first).field field same)
    ∙ go (first == field.index) refl (λ behind one_word. one_of column field words base (first + 1) count kept (λ more. one_word) same behind (omega (arith, to)))
  where
    later : List StoredValue
    later = fields_from (elements_from column (first + 1) count) words (base + first + words_of (element column first))

    go : (b : Bool) → (first == field.index) ≡ b
        → (first + 1 ≤ field.index → words_of (element column 0) ≡ 1 → find (is_of field) (fields_from (elements_from column (first + 1) count) words (base + (first + 1))) ≡ Some (field_at (element column field.index) words (base + field.index)))
        → cond b (Some (field_at (element column first) words (base + first))) (find (is_of field) later) ≡ Some (field_at (element column field.index) words (base + field.index))
    go true here rest =
        let one : first ≡ field.index = grind (arith, nat_tests) in
        ap (λ k. Some (field_at (element column k) words (base + k))) one
    go false here rest =
        let behind : first + 1 ≤ field.index = grind (arith, nat_tests) in
        let one_word : words_of (element column 0) ≡ 1 = word (omega (arith, behind, to)) in
        let next : base + first + words_of (element column first) ≡ base + (first + 1) = omega (arith, one_word) in
        ap (λ n. find (is_of field) (fields_from (elements_from column (first + 1) count) words n)) next ∙ rest behind one_word

-- a field that isn't kept in the column isn't found there, and one that is is found in its words
column_none : (column : Column) (field : Field) (words : List ℕ) (at : ℕ) → is_kept_in column field ≡ false → find (is_of field) (fields_from (elements_of column) words at) ≡ None
column_none column field words at none = go (place column.datum == place field.datum) (nat_lt field.index (size column)) (is_kept (element column 0)) refl refl refl none
  where
    go : (same inside kept : Bool) → (place column.datum == place field.datum) ≡ same → nat_lt field.index (size column) ≡ inside → is_kept (element column 0) ≡ kept
        → (same && inside && kept) ≡ false → find (is_of field) (fields_from (elements_of column) words at) ≡ None
    go false inside kept is_same is_inside is_kept_is none = none_of column field words 0 (size column) at (λ k below. other_place (element column k).field field is_same)
    go true false kept is_same is_inside is_kept_is none =
        let past : size column ≤ field.index = grind (arith, nat_tests) in
        none_of column field words 0 (size column) at (λ k below. let other : (k == field.index) ≡ false = differs k (omega (arith, past, below)) in other_index (element column k).field field other)
      where
        differs : (k : ℕ) → k < field.index → (k == field.index) ≡ false
        differs k lt = grind (arith, nat_tests)
    go true true false is_same is_inside is_kept_is none = ap (find (is_of field)) (nothing_kept column 0 (size column) words at is_kept_is)
    go true true true is_same is_inside is_kept_is none = absurd (cc)

-- what a test that passed says
pub tests_of : (column : Column) (field : Field) → is_kept_in column field ≡ true → (is_kept (element column 0) ≡ true) × (field.index < size column) × ((place column.datum == place field.datum) ≡ true)
tests_of column field is =
    let outer = and_parts (place column.datum == place field.datum && nat_lt field.index (size column)) (is_kept (element column 0)) is in
    let inner = and_parts (place column.datum == place field.datum) (nat_lt field.index (size column)) outer.0 in
    let inside : nat_lt field.index (size column) ≡ true = inner.1 in
    (outer.1, grind (arith, nat_tests), inner.0)

column_one : (column : Column) (field : Field) (words : List ℕ) (at : ℕ) → is_kept_in column field ≡ true →
    find (is_of field) (fields_from (elements_of column) words at) ≡ Some (field_at (element column field.index) words (at + field.index))
column_one column field words at is =
    let tests = tests_of column field is in
    subst (λ n. find (is_of field) (fields_from (elements_of column) words n) ≡ Some (field_at (element column field.index) words (at + field.index))) base
    (one_of column field words at 0 (size column) tests.0 (several column tests.0) tests.2 (omega arith) (omega (arith, tests.1)))
  where
    base : at + 0 ≡ at
    base = omega arith

-- of the columns from the i-th on
pub find-next : (columns : List Column) (i : ℕ) (d : Column) (field : Field) (words : List ℕ) (at : ℕ) → i < length columns → is_kept_in (get_or columns i d) field ≡ false →
    find (is_of field) (fields_from (elements (drop i columns)) words at)
    ≡ find (is_of field) (fields_from (elements (drop (i + 1) columns)) words (at + words_in (elements_of (get_or columns i d))))
find-next columns i d field words at inside none =
    ap (find (is_of field)) (fields-at columns i d words at inside)
    ∙ find-append (is_of field) (fields_from (elements_of (get_or columns i d)) words at) (fields_from (elements (drop (i + 1) columns)) words (at + words_in (elements_of (get_or columns i d))))
    ∙ ap (λ found. option_or found (find (is_of field) (fields_from (elements (drop (i + 1) columns)) words (at + words_in (elements_of (get_or columns i d)))))) (column_none (get_or columns i d) field words at none)

pub find-here : (columns : List Column) (i : ℕ) (d : Column) (field : Field) (words : List ℕ) (at : ℕ) → i < length columns → is_kept_in (get_or columns i d) field ≡ true →
    find (is_of field) (fields_from (elements (drop i columns)) words at) ≡ Some (field_at (element (get_or columns i d) field.index) words (at + field.index))
find-here columns i d field words at inside is =
    ap (find (is_of field)) (fields-at columns i d words at inside)
    ∙ find-append (is_of field) (fields_from (elements_of (get_or columns i d)) words at) (fields_from (elements (drop (i + 1) columns)) words (at + words_in (elements_of (get_or columns i d))))
    ∙ ap (λ found. option_or found (find (is_of field) (fields_from (elements (drop (i + 1) columns)) words (at + words_in (elements_of (get_or columns i d)))))) (column_one (get_or columns i d) field words at is)
