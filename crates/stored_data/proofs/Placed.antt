-- Where the words of a table's fields begin, and what is shown there.
use Rattle.std.proofs.Common.{◌≡◌, ℕ, suc, zero, ◌+◌, ◌-◌, ◌<◌, ◌≤◌, ◌==◌, Bool, true, false, cond, List, [], ◌∷◌, ◌++◌, length, map, get_or, drop, Option, Some, None, refl, sym, ap, subst, ◌∙◌, arith, append_assoc}
use Rattle.std.specs.Prelude.{find, not, slice_get, if◌then◌else◌}
use Rattle.std.specs.List.{AllByRecursion}
use Rattle.std.specs.Option.{option_map}
use Rattle.std.proofs.lemmas.Bool.Decides.{nat_tests}
use Rattle.std.proofs.lemmas.List.Sums.{sum_by-cons}
use Rattle.stored_data.specs.Acts.{is_kept, shown}
use Rattle.stored_data.specs.Data.{is_rate, place}
use Rattle.stored_data.specs.Fields.{Element, element, elements_from, elements_of, elements, size, same_field}
use Rattle.stored_data.specs.Places.{placed, placed_from, shown_there}
use Rattle.stored_data.specs.Stored.{HavePeriods, IsInOrder, IsPeriod}
use Rattle.stored_data.specs.Words.{content_at, field_at, fields_from, taken, words_in, words_of}
use Rattle.stored_data.specs.declared.datum.Datum.TheVariants.{ConnCur}
use Rattle.stored_data.specs.declared.field.Field.{Field}
use Rattle.stored_data.specs.declared.stored_set.Column.{Column}
use Rattle.stored_data.specs.declared.stored_set.Place.{Place}
use Rattle.stored_data.specs.declared.values.StoredValue.{StoredValue}
use Rattle.stored_data.proofs.Elements.{elements-at, elements-more}
use Rattle.stored_data.proofs.SameFields.{other_index, other_place, same_field-refl}

-- ---- places of elements joined
pub placed_from-append : (all later : List Element) (at : ℕ) → placed_from (all ++ later) at ≡ placed_from all at ++ placed_from later (at + words_in all)
placed_from-append [] later at = ap (placed_from later) (omega arith)
placed_from-append (one ∷ all) later at =
    let sums : at + words_of one + words_in all ≡ at + words_in (one ∷ all) = omega (arith, sum_by-cons words_of one all) in
    ap (λ places. placed one at ∷ places) (placed_from-append all later (at + words_of one) ∙ ap (λ n. placed_from all (at + words_of one) ++ placed_from later n) sums)

-- the place of one element more
pub places-joined : (column : Column) (kept : List Place) (index next : ℕ) → index < size column →
    (kept ++ placed (element column index) next ∷ []) ++ placed_from (elements_from column (index + 1) (size column - (index + 1))) (next + words_of (element column 0))
    ≡ kept ++ placed_from (elements_from column index (size column - index)) next
places-joined column kept index next inside =
    append_assoc kept (placed (element column index) next ∷ []) (placed_from (elements_from column (index + 1) (size column - (index + 1))) (next + words_of (element column 0)))
    ∙ ap (λ all. kept ++ placed_from all next) (sym (elements-more column index (size column) inside))

pub words-joined : (column : Column) (index : ℕ) → index < size column →
    words_in (elements_from column index (size column - index)) ≡ words_of (element column 0) + words_in (elements_from column (index + 1) (size column - (index + 1)))
words-joined column index inside =
    ap words_in (elements-more column index (size column) inside) ∙ sum_by-cons words_of (element column index) (elements_from column (index + 1) (size column - (index + 1)))

pub columns-joined : (columns : List Column) (i : ℕ) (d : Column) (kept : List Place) (at : ℕ) → i < length columns →
    (kept ++ placed_from (elements_of (get_or columns i d)) at) ++ placed_from (elements (drop (i + 1) columns)) (at + words_in (elements_of (get_or columns i d))) ≡ kept ++ placed_from (elements (drop i columns)) at
columns-joined columns i d kept at inside =
    append_assoc kept (placed_from (elements_of (get_or columns i d)) at) (placed_from (elements (drop (i + 1) columns)) (at + words_in (elements_of (get_or columns i d))))
    ∙ ap (λ places. kept ++ places) (sym (placed_from-append (elements_of (get_or columns i d)) (elements (drop (i + 1) columns)) at) ∙ ap (λ all. placed_from all at) (sym (elements-at columns i d inside)))

-- ---- fields of which no two are one
abbrev Others : Field → List Element → Type 0
Others field all = AllByRecursion (λ (one : Element). (same_field one.field field ≡ false) × (same_field field one.field ≡ false)) all

abbrev Apart : List Element → Type 0
Apart [] = Unit {0}
Apart (one ∷ later) = Others one.field later × Apart later

others-append : (field : Field) (all later : List Element) → Others field all → Others field later → Others field (all ++ later)
others-append field [] later h k = k
others-append field (one ∷ all) later h k = (h.0, others-append field all later h.1 k)

apart-append : (all later : List Element) → Apart all → Apart later → ((i : ℕ) (field : Field) → slice_get (map (λ (one : Element). one.field) all) i ≡ Some field → Others field later) → Apart (all ++ later)
apart-append [] later h k between = k
apart-append (one ∷ all) later h k between = (
  others-append one.field all later h.0 (between 0 one.field refl),
  apart-append all later h.1 k (λ i field is. between (suc i) field is),
)

-- of one column: other indexes
indexes_apart : (column : Column) (index first count : ℕ) → index < first → Others (element column index).field (elements_from column first count)
indexes_apart column index first zero below = tt
indexes_apart column index first (suc count) below =
    let one : (first == index) ≡ false = grind (arith, nat_tests, below) in
    let other : (index == first) ≡ false = grind (arith, nat_tests, below) in
    ((other_index (element column first).field (element column index).field one, other_index (element column index).field (element column first).field other), indexes_apart column index (first + 1) count (omega (arith, below)))

column_apart : (column : Column) (first count : ℕ) → Apart (elements_from column first count)
column_apart column first zero = tt
column_apart column first (suc count) = (indexes_apart column first (first + 1) count (omega arith), column_apart column (first + 1) count)

-- of columns in order: other places
below_elements : (field : Field) (column : Column) (first count : ℕ) → place field.datum < place column.datum → Others field (elements_from column first count)
below_elements field column first zero below = tt
below_elements field column first (suc count) below =
    let one : (place column.datum == place field.datum) ≡ false = grind (arith, nat_tests, below) in
    let other : (place field.datum == place column.datum) ≡ false = grind (arith, nat_tests, below) in
    ((other_place (element column first).field field one, other_place field (element column first).field other), below_elements field column (first + 1) count below)

below_columns : (field : Field) (columns : List Column) → AllByRecursion (λ (column : Column). place field.datum < place column.datum) columns → Others field (elements columns)
below_columns field [] below = tt
below_columns field (column ∷ columns) below =
    others-append field (elements_of column) (elements columns) (below_elements field column 0 (size column) below.0) (below_columns field columns below.1)

of_column : (column : Column) (first count i : ℕ) (field : Field) → slice_get (map (λ (one : Element). one.field) (elements_from column first count)) i ≡ Some field → column.datum ≡ field.datum
of_column column first zero i field is = absurd (cc)
of_column column first (suc count) zero field is = let same : (element column first).field ≡ field = cc in ap (λ (f : Field). f.datum) same
of_column column first (suc count) (suc i) field is = of_column column (first + 1) count i field is

pub apart-elements : (columns : List Column) → IsInOrder columns → Apart (elements columns)
apart-elements [] in_order = tt
apart-elements (column ∷ columns) in_order =
    apart-append (elements_of column) (elements columns) (column_apart column 0 (size column)) (apart-elements columns in_order.1)
    (λ i field is. below_columns field columns (subst (λ datum. AllByRecursion (λ (other : Column). place datum < place other.datum) columns) (of_column column 0 (size column) i field is) in_order.0))

-- ---- what is shown at a place
abbrev Shown : ℕ → Field → List StoredValue → Option ℕ
Shown now field values = option_map (shown now) (option_map (λ (stored : StoredValue). stored.content) (find (λ (stored : StoredValue). same_field stored.field field) values))

others-none : (field : Field) (all : List Element) (words : List ℕ) (now at : ℕ) → Others field all → Shown now field (fields_from all words at) ≡ None
others-none field [] words now at h = refl
others-none field (one ∷ all) words now at h =
    let rest : Shown now field (fields_from all words (at + words_of one)) ≡ None = others-none field all words now (at + words_of one) h.1 in
    elim (is_kept one) as (λ b. Shown now field (cond b (field_at one words at ∷ fields_from all words (at + words_of one)) (fields_from all words (at + words_of one))) ≡ None) [
      | true ↦ ap (λ b. option_map (shown now) (option_map (λ (stored : StoredValue). stored.content) (cond b (Some (field_at one words at)) (find (λ (stored : StoredValue). same_field stored.field field) (fields_from all words (at + words_of one)))))) h.0.0 ∙ rest
      | false ↦ rest
    ]

others-at : (field : Field) (all : List Element) (i : ℕ) (found : Field) → Others field all → slice_get (map (λ (one : Element). one.field) all) i ≡ Some found → same_field field found ≡ false
others-at field [] i found h is = absurd (cc)
others-at field (one ∷ all) zero found h is = let same : one.field ≡ found = cc in ap (same_field field) (sym same) ∙ h.0.1
others-at field (one ∷ all) (suc i) found h is = others-at field all i found h.1 is

pub shown-placed : (all : List Element) → Apart all → (words : List ℕ) (now at i : ℕ) (field : Field) (d : Place) → slice_get (map (λ (one : Element). one.field) all) i ≡ Some field
    → Shown now field (fields_from all words at) ≡ shown_there (get_or (placed_from all at) i d) words now
shown-placed [] h words now at i field d is = absurd (cc)
shown-placed (one ∷ all) h words now at zero field d is =
    let same : one.field ≡ field = cc in
    subst (λ f. Shown now f (fields_from (one ∷ all) words at) ≡ shown_there (placed one at) words now) same (here (place one.field.datum == place ConnCur))
  where
    later : List StoredValue
    later = fields_from all words (at + words_of one)

    here : (cur : Bool) → Shown now one.field (cond (not cur) (field_at one words at ∷ later) later) ≡ (if cur then None else Some (shown now (content_at one.field.datum one.period words at)))
    here true = others-none one.field all words now (at + words_of one) h.0
    here false = ap (λ b. option_map (shown now) (option_map (λ (stored : StoredValue). stored.content) (cond b (Some (field_at one words at)) (find (λ (stored : StoredValue). same_field stored.field one.field) later)))) (same_field-refl one.field)
shown-placed (one ∷ all) h words now at (suc i) field d is =
    let rest : Shown now field (fields_from all words (at + words_of one)) ≡ shown_there (get_or (placed_from all (at + words_of one)) i d) words now = shown-placed all h.1 words now (at + words_of one) i field d is in
    let other : same_field one.field field ≡ false = others-at one.field all i field h.0 is in
    elim (is_kept one) as (λ b. Shown now field (cond b (field_at one words at ∷ fields_from all words (at + words_of one)) (fields_from all words (at + words_of one))) ≡ shown_there (get_or (placed_from all (at + words_of one)) i d) words now) [
      | true ↦ ap (λ b. option_map (shown now) (option_map (λ (stored : StoredValue). stored.content) (cond b (Some (field_at one words at)) (find (λ (stored : StoredValue). same_field stored.field field) (fields_from all words (at + words_of one)))))) other ∙ rest
      | false ↦ rest
    ]

-- ---- what holds of each place
pub length-placed : (all : List Element) (at : ℕ) → length (placed_from all at) ≡ length all
length-placed [] at = refl
length-placed (one ∷ all) at = ap suc (length-placed all (at + words_of one))

-- a place that is found among those of these elements is the one of its element
pub found-place : (all : List Element) (kept : List Place) (at : ℕ) (there : Place) → kept ≡ placed_from all 0 → at < length kept → there ≡ get_or kept at there
    → (at < length all) × (there ≡ get_or (placed_from all 0) at there)
found-place all kept at there own inside is = (omega (arith, inside, ap length own, length-placed all 0), is ∙ ap (λ (places : List Place). get_or places at there) own)

pub placed-within : (all : List Element) (at i : ℕ) (d : Place) → i < length all → (place (get_or (placed_from all at) i d).datum == place ConnCur) ≡ false
    → (get_or (placed_from all at) i d).at + taken (get_or (placed_from all at) i d).datum ≤ at + words_in all
placed-within [] at i d inside kept = absurd (omega (arith, inside))
placed-within (one ∷ all) at zero d inside kept =
    let own : words_of one ≡ taken one.field.datum = ap (λ b. if not b then (if is_rate one.field.datum then 2 else 1) else 0) kept in
    omega (arith, own, sum_by-cons words_of one all)
placed-within (one ∷ all) at (suc i) d inside kept =
    omega (arith, placed-within all (at + words_of one) i d (omega (arith, inside)) kept, sum_by-cons words_of one all)

abbrev HasPeriod : Element → Type 0
HasPeriod one = IsPeriod (is_rate one.field.datum) one.period

periods-append : (all later : List Element) → AllByRecursion HasPeriod all → AllByRecursion HasPeriod later → AllByRecursion HasPeriod (all ++ later)
periods-append [] later h k = k
periods-append (one ∷ all) later h k = (h.0, periods-append all later h.1 k)

column_periods : (column : Column) (first count : ℕ) → IsPeriod (is_rate column.datum) column.period → AllByRecursion HasPeriod (elements_from column first count)
column_periods column first zero h = tt
column_periods column first (suc count) h = (h, column_periods column (first + 1) count h)

pub elements_periods : (columns : List Column) → HavePeriods columns → AllByRecursion HasPeriod (elements columns)
elements_periods [] h = tt
elements_periods (column ∷ columns) h = periods-append (elements_of column) (elements columns) (column_periods column 0 (size column) h.0) (elements_periods columns h.1)

pub placed-period : (all : List Element) (at i : ℕ) (d : Place) → i < length all → AllByRecursion HasPeriod all → IsPeriod (is_rate (get_or (placed_from all at) i d).datum) (get_or (placed_from all at) i d).period
placed-period [] at i d inside h = absurd (omega (arith, inside))
placed-period (one ∷ all) at zero d inside h = h.0
placed-period (one ∷ all) at (suc i) d inside h = placed-period all (at + words_of one) i d (omega (arith, inside)) h.1
