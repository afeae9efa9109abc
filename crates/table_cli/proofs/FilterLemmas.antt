-- On the entries that pass several filters.
use Rattle.std.proofs.Common.{◌≡◌, ◌∙◌, ℕ, Bool, true, false, not, ◌&&◌, ◌||◌, cond, Some, List, [], ◌∷◌, filter, length, map, option_map, refl, sym, ap, IsPermutation}
use Rattle.std.specs.List.{find, list_all, list_any}
use Rattle.std.specs.Option.{option_map_or}
use Rattle.std.proofs.lemmas.Bool.{and_parts, false≢true}
use Rattle.std.proofs.lemmas.List.Sorted.{list_any-IsPermutation}
use Rattle.stored_data.specs.Fields.{Element, elements, is_field, same_field}
use Rattle.stored_data.specs.declared.field.Field.{Field}
use Rattle.stored_data.proofs.Elements.{is_field-elements}
use Rattle.stored_data.proofs.SameFields.{same_field-is}
use Rattle.stick_model.specs.Filters.{compares, passes}
use Rattle.stick_model.specs.Key.{Key}
use Rattle.stick_model.specs.State.{State, refs, row, shown}
use Rattle.stick_model.specs.declared.rows.Cell.{Cell}
use Rattle.stick_model.specs.declared.rows.Record.{Record}
use Rattle.stick_model.specs.declared.rows.Row.{Row}
use Rattle.stick_model.specs.declared.replies.Reply.TheVariants.{Rows}
use Rattle.table_texts.specs.declared.comparisons.Comparison.{Comparison}
use Rattle.table_cli.specs.Matching.{are_stored, is_match, matches_all}
use Rattle.table_cli.specs.MatchingLaws.{FewFiltersLaw, MatchingLaw, OrderLaw, filter_of, passes_all}

-- ---- lists

every : {X : Type 0} (xs : List X) → filter (λ x. true) xs ≡ xs
every [] = refl
every (x ∷ xs) = ap (λ ys. x ∷ ys) (every xs)

filter-map : {X Y : Type 0} (p : Y → Bool) (f : X → Y) (xs : List X) → filter p (map f xs) ≡ map f (filter (λ x. p (f x)) xs)
filter-map p f [] = refl
filter-map p f (x ∷ xs) =
    elim (p (f x)) as (λ b. cond b (f x ∷ filter p (map f xs)) (filter p (map f xs)) ≡ map f (cond b (x ∷ filter (λ y. p (f y)) xs) (filter (λ y. p (f y)) xs)))
    [ true ↦ ap (λ ys. f x ∷ ys) (filter-map p f xs) | false ↦ filter-map p f xs ]

filter-filter : {X : Type 0} (p q : X → Bool) (xs : List X) → filter q (filter p xs) ≡ filter (λ x. p x && q x) xs
filter-filter p q [] = refl
filter-filter p q (x ∷ xs) =
    elim (p x) as (λ b. filter q (cond b (x ∷ filter p xs) (filter p xs)) ≡ cond (b && q x) (x ∷ filter (λ y. p y && q y) xs) (filter (λ y. p y && q y) xs))
    [ true ↦ ap (λ ys. cond (q x) (x ∷ ys) ys) (filter-filter p q xs) | false ↦ filter-filter p q xs ]

filter-alike : {X : Type 0} (p q : X → Bool) → ((x : X) → p x ≡ q x) → (xs : List X) → filter p xs ≡ filter q xs
filter-alike p q same xs = λ i. filter (λ x. same x i) xs

all-by_any : {X : Type 0} (p : X → Bool) (xs : List X) → list_all p xs ≡ not (list_any (λ x. not (p x)) xs)
all-by_any p [] = refl
all-by_any p (x ∷ xs) =
    elim (p x) as (λ b. (b && list_all p xs) ≡ not (not b || list_any (λ y. not (p y)) xs))
    [ true ↦ all-by_any p xs | false ↦ refl ]

all-in_any_order : {X : Type 0} (p : X → Bool) (xs ys : List X) → IsPermutation xs ys → list_all p xs ≡ list_all p ys
all-in_any_order p xs ys same = all-by_any p xs ∙ ap not (list_any-IsPermutation (λ x. not (p x)) xs ys same) ∙ sym (all-by_any p ys)

-- ---- a row shows the value by which its entry passes

find_shown : (clock count : ℕ) (found : Record) (field : Field) (all : List Element) → list_any (λ (one : Element). same_field one.field field) all ≡ true
    → find (λ (cell : Cell). same_field cell.field field) (map (shown clock count found) (map (λ (one : Element). one.field) all)) ≡ Some (shown clock count found field)
find_shown clock count found field [] some = absurd (false≢true some)
find_shown clock count found field (one ∷ all) some =
    go (same_field one.field field) refl
    (λ other. find_shown clock count found field all (sym (ap (λ b. b || list_any (λ (each : Element). same_field each.field field) all) other) ∙ some))
  where
    go : (b : Bool) → same_field one.field field ≡ b
        → (same_field one.field field ≡ false → find (λ (cell : Cell). same_field cell.field field) (map (shown clock count found) (map (λ (each : Element). each.field) all)) ≡ Some (shown clock count found field))
        → find (λ (cell : Cell). same_field cell.field field) (shown clock count found one.field ∷ map (shown clock count found) (map (λ (each : Element). each.field) all)) ≡ Some (shown clock count found field)
    go true is later =
        ap (λ b. cond b (Some (shown clock count found one.field)) (find (λ (cell : Cell). same_field cell.field field) (map (shown clock count found) (map (λ (each : Element). each.field) all)))) is
        ∙ ap (λ f. Some (shown clock count found f)) (same_field-is one.field field is)
    go false is later =
        ap (λ b. cond b (Some (shown clock count found one.field)) (find (λ (cell : Cell). same_field cell.field field) (map (shown clock count found) (map (λ (each : Element). each.field) all)))) is
        ∙ later is

match_passes : (state : State) (entry : Key × Record) (one : Comparison) → is_field state.spec.columns one.field ≡ true
    → is_match (row state entry.0 entry.1) one ≡ passes state.clock state.tickets (filter_of one) entry
match_passes state entry one stored =
    ap (λ found. option_map_or (λ (value : ℕ). compares one.op value one.bound) (option_map (λ (cell : Cell). cell.value) found) false)
    (find_shown state.clock (refs entry.0 state.tickets) entry.1 one.field (elements state.spec.columns) (is_field-elements state.spec.columns one.field ∙ stored))

matches_passes : (state : State) (entry : Key × Record) (all : List Comparison) → are_stored state.spec.columns all ≡ true
    → matches_all all (row state entry.0 entry.1) ≡ passes_all state all entry
matches_passes state entry [] stored = refl
matches_passes state entry (one ∷ all) stored =
    let parts = and_parts (is_field state.spec.columns one.field) (are_stored state.spec.columns all) stored in
    ap (λ b. b && matches_all all (row state entry.0 entry.1)) (match_passes state entry one parts.0)
    ∙ ap (λ b. passes state.clock state.tickets (filter_of one) entry && b) (matches_passes state entry all parts.1)

-- ---- listings

-- the rows of the entries that pass the first filter and match the others are those of the entries that pass all
rows_of_all : (state : State) (one : Comparison) (all : List Comparison) → are_stored state.spec.columns (one ∷ all) ≡ true
    → filter (matches_all all) (map (λ (entry : Key × Record). row state entry.0 entry.1) (filter (passes state.clock state.tickets (filter_of one)) state.records))
    ≡ map (λ (entry : Key × Record). row state entry.0 entry.1) (filter (passes_all state (one ∷ all)) state.records)
rows_of_all state one all stored =
    let parts = and_parts (is_field state.spec.columns one.field) (are_stored state.spec.columns all) stored in
    let show : Key × Record → Row = λ (entry : Key × Record). row state entry.0 entry.1 in
    let first : Key × Record → Bool = passes state.clock state.tickets (filter_of one) in
    filter-map (matches_all all) show (filter first state.records)
    ∙ ap (map show) (
    filter-filter first (λ (entry : Key × Record). matches_all all (show entry)) state.records
    ∙ filter-alike (λ (entry : Key × Record). first entry && matches_all all (show entry)) (passes_all state (one ∷ all))
    (λ entry. ap (λ b. first entry && b) (matches_passes state entry all parts.1)) state.records
    )

pub all_filters : MatchingLaw
all_filters state [] stored =
    ap (Rows (length state.records)) (every (map (λ (entry : Key × Record). row state entry.0 entry.1) (filter (λ (entry : Key × Record). true) state.records)))
all_filters state (one ∷ all) stored = ap (Rows (length state.records)) (rows_of_all state one all stored)

pub any_order : OrderLaw
any_order state all others same =
    ap (λ entries. Rows (length state.records) (map (λ (entry : Key × Record). row state entry.0 entry.1) entries))
    (filter-alike (passes_all state all) (passes_all state others)
    (λ entry. all-in_any_order (λ (one : Comparison). passes state.clock state.tickets (filter_of one) entry) all others same) state.records)

and-true : (b : Bool) → (b && true) ≡ b
and-true true = refl
and-true false = refl

pub few_filters : FewFiltersLaw
few_filters state one = (
  refl,
  ap (λ entries. Rows (length state.records) (map (λ (entry : Key × Record). row state entry.0 entry.1) entries))
      (filter-alike (passes_all state (one ∷ [])) (passes state.clock state.tickets (filter_of one)) (λ entry. and-true (passes state.clock state.tickets (filter_of one) entry)) state.records),
)
