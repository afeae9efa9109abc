-- The elements of columns.
use Rattle.std.proofs.Common.{◌≡◌, ℕ, suc, zero, ◌+◌, ◌-◌, ◌<◌, ◌≤◌, ◌==◌, Bool, true, false, nat_lt, List, [], ◌∷◌, arith, refl, ap, ◌∙◌, ◌++◌, length, get_or, drop, map, append_assoc, sym}
use Rattle.std.specs.Prelude.{◌&&◌, ◌||◌, Any, IsTrue, ◌↔◌}
use Rattle.std.specs.List.{list_any}
use Rattle.std.proofs.lemmas.Bool.{and_parts}
use Rattle.std.proofs.lemmas.Bool.Decides.{nat_tests}
use Rattle.std.proofs.lemmas.List.{map-append}
use Rattle.std.proofs.Math.Seq.{drop-cons}
use Rattle.std.proofs.lemmas.List.Folds.{list_any-append, Any-from_list_any, list_any-from_Any}
use Rattle.stored_data.specs.Data.{place, is_rate, is_array}
use Rattle.stored_data.specs.Fields.{Element, element, elements_from, elements_of, elements, size, same_field, Stores, is_field, fields_of}
use Rattle.stored_data.proofs.Columns.{place-injective}
use Rattle.stored_data.proofs.SameFields.{other_place, other_index, same_places}
use Rattle.stored_data.specs.declared.datum.Datum.{Datum}
use Rattle.stored_data.specs.declared.datum.Datum.TheVariants.{Gpt0, ConnCur, Gpt, Gpc}
use Rattle.stored_data.specs.declared.field.Field.{Field}
use Rattle.stored_data.specs.declared.stored_set.Column.{Column}

-- an array is no rate, and isn't the current connections
pub array_kept : (datum : Datum) → is_array datum ≡ true → (is_rate datum ≡ false) × ((place datum == place ConnCur) ≡ false)
array_kept Gpt array = (refl, refl)
array_kept Gpc array = (refl, refl)
array_kept _ array = absurd (cc)

-- the first of the elements that are left
pub elements-more : (column : Column) (index count : ℕ) → index < count → elements_from column index (count - index) ≡ element column index ∷ elements_from column (index + 1) (count - (index + 1))
elements-more column index count inside =
    let more : count - index ≡ suc (count - (index + 1)) = omega arith in
    ap (λ n. elements_from column index n) more

-- the i-th column, then those behind it
pub elements-at : (columns : List Column) (i : ℕ) (d : Column) → i < length columns → elements (drop i columns) ≡ elements_of (get_or columns i d) ++ elements (drop (i + 1) columns)
elements-at columns i d inside =
    let next : i + 1 ≡ suc i = omega arith in
    ap elements (drop-cons columns i d inside) ∙ ap (λ m. elements_of (get_or columns i d) ++ elements (drop m columns)) (sym next)

-- ---- what was joined so far, with one more
pub spread-joined : (column : Column) (kept : List Field) (index : ℕ) → index < size column →
    (kept ++ (element column index).field ∷ []) ++ map (λ one. one.field) (elements_from column (index + 1) (size column - (index + 1)))
    ≡ kept ++ map (λ one. one.field) (elements_from column index (size column - index))
spread-joined column kept index inside =
    append_assoc kept ((element column index).field ∷ []) (map (λ one. one.field) (elements_from column (index + 1) (size column - (index + 1))))
    ∙ ap (λ all. kept ++ map (λ one. one.field) all) (sym (elements-more column index (size column) inside))

pub fields_of-joined : (columns : List Column) (i : ℕ) (d : Column) (kept : List Field) → i < length columns →
    (kept ++ map (λ one. one.field) (elements_of (get_or columns i d))) ++ fields_of (drop (i + 1) columns) ≡ kept ++ fields_of (drop i columns)
fields_of-joined columns i d kept inside =
    append_assoc kept (map (λ one. one.field) (elements_of (get_or columns i d))) (fields_of (drop (i + 1) columns))
    ∙ sym (ap (λ fs. kept ++ fs) (ap (map (λ one. one.field)) (elements-at columns i d inside) ∙ map-append (λ one. one.field) (elements_of (get_or columns i d)) (elements (drop (i + 1) columns))))

-- what stands for no column
abbrev pub no_column : Column
no_column = record { datum = Gpt0; period = 0; count = 0 }

-- ---- which fields they have
abbrev is_at : Field → Element → Bool
is_at field one = same_field one.field field

-- those of another datum are other fields
none_of_other : (column : Column) (field : Field) (first count : ℕ) → (place column.datum == place field.datum) ≡ false → list_any (is_at field) (elements_from column first count) ≡ false
none_of_other column field first zero other = refl
none_of_other column field first (suc count) other =
    ap (λ b. b || list_any (is_at field) (elements_from column (first + 1) count)) (other_place (element column first).field field other) ∙ none_of_other column field (first + 1) count other

-- an index that is in the range is found, and any other isn't
one_at : (column : Column) (field : Field) (first count : ℕ) → (place column.datum == place field.datum) ≡ true → first ≤ field.index → field.index < first + count →
    list_any (is_at field) (elements_from column first count) ≡ true
one_at column field first zero same from to = absurd (omega arith)
one_at column field first (suc count) same from to = go (first == field.index) refl (λ behind. one_at column field (first + 1) count same behind (omega (arith, to)))
  where
    go : (here : Bool) → (first == field.index) ≡ here → (first + 1 ≤ field.index → list_any (is_at field) (elements_from column (first + 1) count) ≡ true)
        → (same_field (element column first).field field || list_any (is_at field) (elements_from column (first + 1) count)) ≡ true
    go true here later = ap (λ b. b || list_any (is_at field) (elements_from column (first + 1) count)) (same_places (element column first).field field same ∙ here)
    go false here later =
        let behind : first + 1 ≤ field.index = grind (arith, nat_tests) in
        ap (λ b. b || list_any (is_at field) (elements_from column (first + 1) count)) (same_places (element column first).field field same ∙ here) ∙ later behind

none_at : (column : Column) (field : Field) (first count : ℕ) → first + count ≤ field.index → list_any (is_at field) (elements_from column first count) ≡ false
none_at column field first zero past = refl
none_at column field first (suc count) past =
    let other : (first == field.index) ≡ false = grind (arith, nat_tests) in
    ap (λ b. b || list_any (is_at field) (elements_from column (first + 1) count)) (other_index (element column first).field field other) ∙ none_at column field (first + 1) count (omega arith)

column_has : (column : Column) (field : Field) (here inside : Bool) → (place column.datum == place field.datum) ≡ here → nat_lt field.index (size column) ≡ inside →
    list_any (is_at field) (elements_of column) ≡ (here && inside)
column_has column field false inside is_here is_inside = none_of_other column field 0 (size column) is_here
column_has column field true true is_here is_inside =
    let below : field.index < size column = grind (arith, nat_tests) in
    one_at column field 0 (size column) is_here (omega arith) (omega arith)
column_has column field true false is_here is_inside =
    let past : size column ≤ field.index = grind (arith, nat_tests) in
    none_at column field 0 (size column) (omega arith)

-- the fields of the elements are those that are stored
pub is_field-elements : (columns : List Column) (field : Field) → list_any (λ one. same_field one.field field) (elements columns) ≡ is_field columns field
is_field-elements [] field = refl
is_field-elements (column ∷ columns) field =
    list_any-append (is_at field) (elements_of column) (elements columns)
    ∙ ap (λ b. b || list_any (is_at field) (elements columns)) (column_has column field (place column.datum == place field.datum) (nat_lt field.index (size column)) refl refl)
    ∙ ap (λ b. (place column.datum == place field.datum && nat_lt field.index (size column)) || b) (is_field-elements columns field)

-- ---- stored fields
stores-tested : (columns : List Column) (field : Field) → Any (λ column. (place column.datum == place field.datum && nat_lt field.index (size column)) ≡ true) columns → Stores columns field
stores-tested columns field found =
    let tests = and_parts (place found.1.datum == place field.datum) (nat_lt field.index (size found.1)) found.4 in
    let same = tests.0 in
    let below = tests.1 in
    (found.0, found.1, found.2, found.3, (place-injective found.1.datum field.datum (grind (arith, nat_tests)), grind (arith, nat_tests)))

tested-stores : (columns : List Column) (field : Field) → Stores columns field → Any (λ column. (place column.datum == place field.datum && nat_lt field.index (size column)) ≡ true) columns
tested-stores columns field held =
    let same : place held.1.datum ≡ place field.datum = ap place held.4.0 in
    let below : field.index < size held.1 = held.4.1 in
    let here : (place held.1.datum == place field.datum) ≡ true = grind (arith, nat_tests) in
    let inside : nat_lt field.index (size held.1) ≡ true = grind (arith, nat_tests) in
    (held.0, held.1, held.2, held.3, ap (λ b. b && nat_lt field.index (size held.1)) here ∙ inside)

pub is_field-stores : (columns : List Column) (field : Field) → IsTrue (is_field columns field) ↔ Stores columns field
is_field-stores columns field = (
  (λ yes. stores-tested columns field (Any-from_list_any (λ column. place column.datum == place field.datum && nat_lt field.index (size column)) columns yes)),
  (λ held. list_any-from_Any (λ column. place column.datum == place field.datum && nat_lt field.index (size column)) columns (tested-stores columns field held)),
)
