-- Rows that rise by their keys have one order.
use Rattle.std.proofs.Common.{◌≡◌, ◌⊎◌, inl, inr, refl, sym, ap, ◌∙◌, zero, suc, arith, List, [], ◌∷◌, map}
use Rattle.std.specs.List.{AllByRecursion, Contains}
use Rattle.std.specs.List.Sorted.{IsPermutation, IsStrictlySortedBy}
use Rattle.std.specs.Cmp.Lexicographic.{nat_list_cmp_total}
use Rattle.std.specs.Ordering.{ordering_reverse}
use Rattle.std.specs.declared.cmp.Ordering.TheVariants.{Less, Greater}
use Rattle.std.proofs.lemmas.List.Sorted.{Contains-permutation, IsPermutation-sym, IsPermutation-trans}
use Rattle.std.proofs.lemmas.Map.Keys.{sorted_head, sorted_tail}
use Rattle.stick_model.specs.Key.{Key, key_cmp}
use Rattle.stick_model.specs.declared.rows.Row.{Row}

-- a row is one of some rows
abbrev IsIn : Row → List Row → Type 0
IsIn row [] = ⊥
IsIn row (first ∷ rest) = (row ≡ first) ⊎ IsIn row rest

is_in : (rows : List Row) (row : Row) → Contains rows row → IsIn row rows
is_in [] row (k, below, at) = absurd (omega arith)
is_in (first ∷ rest) row (zero, below, at) = inl (sym at)
is_in (first ∷ rest) row (suc k, below, at) = inr (is_in rest row (k, omega arith, at))

contains : (rows : List Row) (row : Row) → IsIn row rows → Contains rows row
contains [] row is = absurd is
contains (first ∷ rest) row (inl is) = (0, omega arith, sym is)
contains (first ∷ rest) row (inr is) = let there = contains rest row is in (suc there.0, omega (arith, there.1), there.2)

irreflexive : (key : Key) → key_cmp key key ≡ Less → ⊥
irreflexive key less = let never : Less ≡ Greater = sym less ∙ nat_list_cmp_total.antisymm key key ∙ ap ordering_reverse less in cc

asymmetric : (a b : Key) → key_cmp a b ≡ Less → key_cmp b a ≡ Less → ⊥
asymmetric a b less more = let never : Less ≡ Greater = sym less ∙ nat_list_cmp_total.antisymm a b ∙ ap ordering_reverse more in cc

abbrev pub Rise : List Row → Type 0
Rise rows = IsStrictlySortedBy key_cmp (map (λ (row : Row). row.key) rows)

before : (first : Row) (rest : List Row) (row : Row) → AllByRecursion (λ y. key_cmp first.key y ≡ Less) (map (λ (r : Row). r.key) rest) → IsIn row rest → key_cmp first.key row.key ≡ Less
before first [] row all is = absurd is
before first (next ∷ rest) row all (inl is) = ap (λ (r : Row). key_cmp first.key r.key) is ∙ all.0
before first (next ∷ rest) row all (inr is) = before first rest row all.1 is

one_order_in : (rows others : List Row) → Rise rows → Rise others → ((row : Row) → IsIn row rows → IsIn row others) → ((row : Row) → IsIn row others → IsIn row rows) → rows ≡ others
one_order_in [] [] rise too there back = refl
one_order_in [] (other ∷ others) rise too there back = absurd (back other (inl refl))
one_order_in (row ∷ rows) [] rise too there back = absurd (there row (inl refl))
one_order_in (row ∷ rows) (other ∷ others) rise too there back =
    let first = sorted_head key_cmp row.key (map (λ (r : Row). r.key) rows) rise in
    let also = sorted_head key_cmp other.key (map (λ (r : Row). r.key) others) too in
    let same : row ≡ other = heads (there row (inl refl)) (back other (inl refl)) (before row rows other first) (before other others row also) in
    let rest : rows ≡ others = one_order_in rows others (sorted_tail key_cmp row.key (map (λ (r : Row). r.key) rows) rise) (sorted_tail key_cmp other.key (map (λ (r : Row). r.key) others) too)
    (λ r is. behind other others r (there r (inr is)) (λ at_first. irreflexive r.key (ap (λ (s : Row). key_cmp s.key r.key) (at_first ∙ sym same) ∙ before row rows r first is)))
    (λ r is. behind row rows r (back r (inr is)) (λ at_first. irreflexive r.key (ap (λ (s : Row). key_cmp s.key r.key) (at_first ∙ same) ∙ before other others r also is))) in
    (λ i. same i ∷ rest i)
  where
    heads : (row ≡ other) ⊎ IsIn row others → (other ≡ row) ⊎ IsIn other rows → (IsIn other rows → key_cmp row.key other.key ≡ Less) → (IsIn row others → key_cmp other.key row.key ≡ Less) → row ≡ other
    heads (inl is) back below above = is
    heads (inr is) (inl at) below above = sym at
    heads (inr is) (inr at) below above = absurd (asymmetric row.key other.key (below at) (above is))

    behind : (first : Row) (rest : List Row) (r : Row) → (r ≡ first) ⊎ IsIn r rest → (r ≡ first → ⊥) → IsIn r rest
    behind first rest r (inl is) not_first = absurd (not_first is)
    behind first rest r (inr is) not_first = is

-- two arrangements of the same rows, each rising by their keys, are one
pub one_order : (rows one other : List Row) → IsPermutation rows one → IsPermutation rows other → Rise one → Rise other → one ≡ other
one_order rows one other a b rise too =
    let across : IsPermutation one other = IsPermutation-trans one rows other (IsPermutation-sym rows one a) b in
    one_order_in one other rise too
    (λ row is. is_in other row (Contains-permutation one other row across (contains one row is)))
    (λ row is. is_in one row (Contains-permutation other one row (IsPermutation-sym one other across) (contains other row is)))
