-- On the open connections, in the order of their IDs.
use Rattle.std.proofs.Common.{◌≡◌, ℕ, ◌+◌, nat_eq, refl, sym, ap, subst, ◌∙◌, arith, true, false, cond, Some, None, List, [], ◌∷◌, sum_by}
use Rattle.std.specs.Prelude.{All}
use Rattle.std.specs.BTreeMap.{insert_entry}
use Rattle.std.specs.Cmp.{tied_itself}
use Rattle.std.specs.List.{AllByRecursion, IsDistinct}
use Rattle.std.specs.Map.{keys_of}
use Rattle.std.specs.Ordering.{is_eq, match_ordering, nat_cmp}
use Rattle.std.specs.declared.cmp.Ordering.{Ordering}
use Rattle.std.specs.declared.cmp.Ordering.TheVariants.{Less, Equal, Greater}
use Rattle.std.proofs.lemmas.Bool.{ne_eqb}
use Rattle.std.proofs.lemmas.Cmp.{nat_cmp_total}
use Rattle.std.proofs.lemmas.List.Elements.{All-from_recursion, recursion_from_All}
use Rattle.std.proofs.lemmas.List.Sums.{sum_by-cons}
use Rattle.admit_core.specs.declared.conn.Conn.{Conn}
use Rattle.shard_port.specs.declared.reference.Reference.{Reference}
use Rattle.admit_drive.proofs.SumLemmas.{some_same}
use Rattle.stick_model.proofs.EntryLemmas.{all-keys-insert, lookup-insert}
use Rattle.stickd_script.specs.Guests.{Guest, guest_of, without}

none_some : {X : Type 0} {x : X} → None ≡ Some x → ⊥
none_some e = cc

some_none : {X : Type 0} {x : X} → Some x ≡ None → ⊥
some_none e = cc

-- ---- IDs, compared

tied : (a b : ℕ) → a ≡ b → nat_cmp a b ≡ Equal
tied a b same = subst (λ c. nat_cmp a c ≡ Equal) same (tied_itself nat_cmp_total a)

differs : (a b : ℕ) (o : Ordering) → nat_cmp a b ≡ o → (o ≡ Equal → ⊥) → (nat_eq a b ≡ false) × (nat_eq b a ≡ false)
differs a b o is not = (ne_eqb a b (λ same. not (sym is ∙ tied a b same)), ne_eqb b a (λ same. not (sym is ∙ tied a b (sym same))))

less_not : Less ≡ Equal → ⊥
less_not e = cc

greater_not : Greater ≡ Equal → ⊥
greater_not e = cc

-- an ID that isn't open differs from all that are
abbrev Apart : ℕ → ℕ → Type 0
Apart id other = (nat_eq id other ≡ false) × (nat_eq other id ≡ false)

all_apart : (id : ℕ) (guests : List Guest) → guest_of id guests ≡ None → AllByRecursion (Apart id) (keys_of guests)
all_apart id [] none = tt
all_apart id (guest ∷ guests) none =
    elim (nat_cmp id guest.0) as (λ o. nat_cmp id guest.0 ≡ o → cond (is_eq o) (Some guest.1) (guest_of id guests) ≡ None → AllByRecursion (Apart id) (keys_of (guest ∷ guests))) [
      | Less ↦ λ is later. (differs id guest.0 Less is less_not, all_apart id guests later)
      | Equal ↦ λ _ here. absurd (some_none here)
      | Greater ↦ λ is later. (differs id guest.0 Greater is greater_not, all_apart id guests later)
    ] refl none

-- ---- one comes

module _ (id : ℕ) (conn : Conn Reference) where
  pub distinct_with : (guests : List Guest) → guest_of id guests ≡ None → IsDistinct nat_eq (keys_of guests) → IsDistinct nat_eq (keys_of (insert_entry nat_cmp guests id conn))
  unfolding IsDistinct
  distinct_with [] none distinct = (tt, tt)
  distinct_with (guest ∷ guests) none distinct =
      let apart : AllByRecursion (Apart id) (keys_of (guest ∷ guests)) = all_apart id (guest ∷ guests) none in
      elim (nat_cmp id guest.0) as (λ o. cond (is_eq o) (Some guest.1) (guest_of id guests) ≡ None
      → IsDistinct nat_eq (keys_of (match_ordering o ((id, conn) ∷ guest ∷ guests) ((guest.0, conn) ∷ guests) (guest ∷ insert_entry nat_cmp guests id conn)))) [
        | Less ↦ λ _. (firsts (keys_of (guest ∷ guests)) apart, distinct)
        | Equal ↦ λ here. absurd (some_none here)
        | Greater ↦ λ later. (all-keys-insert nat_cmp id conn (λ other. nat_eq guest.0 other ≡ false) guests distinct.0 apart.0.1, distinct_with guests later distinct.1)
      ] none
    where
      firsts : (ids : List ℕ) → AllByRecursion (Apart id) ids → AllByRecursion (λ other. nat_eq id other ≡ false) ids
      firsts [] all = tt
      firsts (other ∷ ids) all = (all.0.0, firsts ids all.1)

  -- what is counted of all is that of the others, and of the one that came
  pub sum_with : (f : Conn Reference → ℕ) (guests : List Guest) → guest_of id guests ≡ None
      → sum_by (λ (guest : Guest). f guest.1) (insert_entry nat_cmp guests id conn) ≡ sum_by (λ (guest : Guest). f guest.1) guests + f conn
  sum_with f [] none = omega (arith, sum_by-cons (λ (guest : Guest). f guest.1) (id, conn) [])
  sum_with f (guest ∷ guests) none =
      let g : Guest → ℕ = λ (guest : Guest). f guest.1 in
      elim (nat_cmp id guest.0) as (λ o. cond (is_eq o) (Some guest.1) (guest_of id guests) ≡ None
      → sum_by g (match_ordering o ((id, conn) ∷ guest ∷ guests) ((guest.0, conn) ∷ guests) (guest ∷ insert_entry nat_cmp guests id conn)) ≡ sum_by g (guest ∷ guests) + f conn) [
        | Less ↦ λ _. omega (arith, sum_by-cons g (id, conn) (guest ∷ guests))
        | Equal ↦ λ here. absurd (some_none here)
        | Greater ↦ λ later.
            let rest : ◌≡◌ {A = ℕ} (sum_by g (insert_entry nat_cmp guests id conn)) (sum_by g guests + f conn) = sum_with f guests later in
            omega (arith, rest, sum_by-cons g guest guests, sum_by-cons g guest (insert_entry nat_cmp guests id conn))
      ] none

  -- what holds of all holds of all and the one that came
  pub all_with : (P : Conn Reference → Type 0) (guests : List Guest) → All (λ (guest : Guest). P guest.1) guests → P conn → All (λ (guest : Guest). P guest.1) (insert_entry nat_cmp guests id conn)
  all_with P guests all one = All-from_recursion (λ (guest : Guest). P guest.1) (insert_entry nat_cmp guests id conn) (go guests (recursion_from_All (λ (guest : Guest). P guest.1) guests all))
    where
      go : (guests : List Guest) → AllByRecursion (λ (guest : Guest). P guest.1) guests → AllByRecursion (λ (guest : Guest). P guest.1) (insert_entry nat_cmp guests id conn)
      go [] all = (one, tt)
      go (guest ∷ guests) all =
          elim (nat_cmp id guest.0) as (λ o. AllByRecursion (λ (guest : Guest). P guest.1) (match_ordering o ((id, conn) ∷ guest ∷ guests) ((guest.0, conn) ∷ guests) (guest ∷ insert_entry nat_cmp guests id conn))) [
            | Less ↦ (one, all)
            | Equal ↦ (one, all.1)
            | Greater ↦ (all.0, go guests all.1)
          ]

  -- it is found, one that comes to its place is there in place of it, and once it is taken out the others are as before
  pub found_with : (guests : List Guest) → guest_of id (insert_entry nat_cmp guests id conn) ≡ Some conn
  found_with guests = lookup-insert nat_cmp id conn nat_cmp_total id guests ∙ ap (λ o. cond (is_eq o) (Some conn) (guest_of id guests)) (tied id id refl)

  pub with_both : (other : Conn Reference) (guests : List Guest) → insert_entry nat_cmp (insert_entry nat_cmp guests id other) id conn ≡ insert_entry nat_cmp guests id conn
  with_both other [] = ap (λ o. match_ordering o ((id, conn) ∷ (id, other) ∷ []) ((id, conn) ∷ []) ((id, other) ∷ insert_entry nat_cmp [] id conn)) (tied id id refl)
  with_both other (guest ∷ guests) =
      elim (nat_cmp id guest.0) as (λ o. nat_cmp id guest.0 ≡ o → insert_entry nat_cmp (match_ordering o ((id, other) ∷ guest ∷ guests) ((guest.0, other) ∷ guests) (guest ∷ insert_entry nat_cmp guests id other)) id conn
      ≡ match_ordering o ((id, conn) ∷ guest ∷ guests) ((guest.0, conn) ∷ guests) (guest ∷ insert_entry nat_cmp guests id conn)) [
        | Less ↦ λ _. ap (λ o. match_ordering o ((id, conn) ∷ (id, other) ∷ guest ∷ guests) ((id, conn) ∷ guest ∷ guests) ((id, other) ∷ insert_entry nat_cmp (guest ∷ guests) id conn)) (tied id id refl)
        | Equal ↦ λ is. ap (λ o. match_ordering o ((id, conn) ∷ (guest.0, other) ∷ guests) ((guest.0, conn) ∷ guests) ((guest.0, other) ∷ insert_entry nat_cmp guests id conn)) is
        | Greater ↦ λ is. ap (λ o. match_ordering o ((id, conn) ∷ guest ∷ insert_entry nat_cmp guests id other) ((guest.0, conn) ∷ insert_entry nat_cmp guests id other) (guest ∷ insert_entry nat_cmp (insert_entry nat_cmp guests id other) id conn)) is
            ∙ ap (λ gs. guest ∷ gs) (with_both other guests)
      ] refl

  pub with_and_without : (guests : List Guest) → guest_of id guests ≡ None → without id (insert_entry nat_cmp guests id conn) ≡ guests
  with_and_without [] none = ap (λ o. cond (is_eq o) [] ((id, conn) ∷ [])) (tied id id refl)
  with_and_without (guest ∷ guests) none =
      elim (nat_cmp id guest.0) as (λ o. nat_cmp id guest.0 ≡ o → cond (is_eq o) (Some guest.1) (guest_of id guests) ≡ None
      → without id (match_ordering o ((id, conn) ∷ guest ∷ guests) ((guest.0, conn) ∷ guests) (guest ∷ insert_entry nat_cmp guests id conn)) ≡ guest ∷ guests) [
        | Less ↦ λ _ _. ap (λ o. cond (is_eq o) (guest ∷ guests) ((id, conn) ∷ without id (guest ∷ guests))) (tied id id refl)
        | Equal ↦ λ _ here. absurd (some_none here)
        | Greater ↦ λ is later. ap (λ o. cond (is_eq o) (insert_entry nat_cmp guests id conn) (guest ∷ without id (insert_entry nat_cmp guests id conn))) is ∙ ap (λ gs. guest ∷ gs) (with_and_without guests later)
      ] refl none

-- ---- one goes

module _ (id : ℕ) where
  all_keys_without : (P : ℕ → Type 0) (guests : List Guest) → AllByRecursion P (keys_of guests) → AllByRecursion P (keys_of (without id guests))
  all_keys_without P [] all = tt
  all_keys_without P (guest ∷ guests) all =
      elim (is_eq (nat_cmp id guest.0)) as (λ b. AllByRecursion P (keys_of (cond b guests (guest ∷ without id guests)))) [ true ↦ all.1 | false ↦ (all.0, all_keys_without P guests all.1) ]

  pub distinct_without : (guests : List Guest) → IsDistinct nat_eq (keys_of guests) → IsDistinct nat_eq (keys_of (without id guests))
  unfolding IsDistinct
  distinct_without [] distinct = tt
  distinct_without (guest ∷ guests) distinct =
      elim (is_eq (nat_cmp id guest.0)) as (λ b. IsDistinct nat_eq (keys_of (cond b guests (guest ∷ without id guests)))) [
        | true ↦ distinct.1
        | false ↦ (all_keys_without (λ other. nat_eq guest.0 other ≡ false) guests distinct.0, distinct_without guests distinct.1)
      ]

  -- what is counted of all is that of the one of an ID, and of the others
  pub sum_without : (f : Conn Reference → ℕ) (guests : List Guest) (found : Conn Reference) → guest_of id guests ≡ Some found
      → sum_by (λ (guest : Guest). f guest.1) (without id guests) + f found ≡ sum_by (λ (guest : Guest). f guest.1) guests
  sum_without f [] found at = absurd (none_some at)
  sum_without f (guest ∷ guests) found at =
      let g : Guest → ℕ = λ (guest : Guest). f guest.1 in
      elim (is_eq (nat_cmp id guest.0)) as (λ b. cond b (Some guest.1) (guest_of id guests) ≡ Some found
      → sum_by g (cond b guests (guest ∷ without id guests)) + f found ≡ sum_by g (guest ∷ guests)) [
        | true ↦ λ here.
            let same : ◌≡◌ {A = ℕ} (f guest.1) (f found) = ap f (some_same guest.1 found here) in
            omega (arith, same, sum_by-cons g guest guests)
        | false ↦ λ later.
            let rest : ◌≡◌ {A = ℕ} (sum_by g (without id guests) + f found) (sum_by g guests) = sum_without f guests found later in
            omega (arith, rest, sum_by-cons g guest guests, sum_by-cons g guest (without id guests))
      ] at

  -- what holds of all holds of the one of an ID, and of the others
  pub all_at : (P : Conn Reference → Type 0) (guests : List Guest) (found : Conn Reference) → guest_of id guests ≡ Some found → All (λ (guest : Guest). P guest.1) guests → P found
  all_at P guests found at all = go guests at (recursion_from_All (λ (guest : Guest). P guest.1) guests all)
    where
      go : (guests : List Guest) → guest_of id guests ≡ Some found → AllByRecursion (λ (guest : Guest). P guest.1) guests → P found
      go [] at all = absurd (none_some at)
      go (guest ∷ guests) at all =
          elim (is_eq (nat_cmp id guest.0)) as (λ b. cond b (Some guest.1) (guest_of id guests) ≡ Some found → P found) [
            | true ↦ λ here. subst P (some_same guest.1 found here) all.0
            | false ↦ λ later. go guests later all.1
          ] at

  pub all_without : (P : Conn Reference → Type 0) (guests : List Guest) → All (λ (guest : Guest). P guest.1) guests → All (λ (guest : Guest). P guest.1) (without id guests)
  all_without P guests all = All-from_recursion (λ (guest : Guest). P guest.1) (without id guests) (go guests (recursion_from_All (λ (guest : Guest). P guest.1) guests all))
    where
      go : (guests : List Guest) → AllByRecursion (λ (guest : Guest). P guest.1) guests → AllByRecursion (λ (guest : Guest). P guest.1) (without id guests)
      go [] all = tt
      go (guest ∷ guests) all =
          elim (is_eq (nat_cmp id guest.0)) as (λ b. AllByRecursion (λ (guest : Guest). P guest.1) (cond b guests (guest ∷ without id guests))) [ true ↦ all.1 | false ↦ (all.0, go guests all.1) ]

  -- where the ID isn't open, all are the others
  pub none_without : (guests : List Guest) → guest_of id guests ≡ None → guests ≡ without id guests
  none_without [] closed = refl
  none_without (guest ∷ guests) closed =
      elim (is_eq (nat_cmp id guest.0)) as (λ b. cond b (Some guest.1) (guest_of id guests) ≡ None → guest ∷ guests ≡ cond b guests (guest ∷ without id guests)) [
        | true ↦ λ here. absurd (some_none here)
        | false ↦ λ later. ap (λ gs. guest ∷ gs) (none_without guests later)
      ] closed
