-- What places mean as a list of tickets.
use Rattle.std.proofs.Common.{◌≡◌, ℕ, zero, suc, ◌+◌, ◌<◌, ◌≤◌, ◌⊎◌, inl, inr, refl, sym, ◌∙◌, ap, subst, arith, List, [], ◌∷◌, ◌++◌, length, filter, map, get_or, set, replicate, Bool, true, false, cond, not, eqb, Option, Some, None, is_some, IsSome, count_by}
use Rattle.std.specs.Prelude.{nat_eq, ◌&&◌, IfNone}
use Rattle.std.specs.BTreeMap.{is_at}
use Rattle.std.specs.Cmp.{nat_cmp_total, tied_itself}
use Rattle.std.specs.List.{AllByRecursion, list_all}
use Rattle.std.specs.List.Sorted.{IsStrictlySortedBy}
use Rattle.std.specs.Map.{keys_of, lookup}
use Rattle.std.specs.Option.{option_map}
use Rattle.std.specs.Ordering.{is_eq, nat_cmp}
use Rattle.std.specs.declared.cmp.Ordering.{Ordering}
use Rattle.std.specs.declared.cmp.Ordering.TheVariants.{Less, Equal, Greater}
use Rattle.std.proofs.lemmas.Bool.{cases_eq, cases_lt, eqb-true, eqb-false, eq-eqb, ne_eqb}
use Rattle.std.proofs.lemmas.List.{length-map, map-append, get_or-set_same, get_or-set_other, length-set, get_or-replicate, get_or_past}
use Rattle.std.proofs.Math.ListN.{length-replicate}
use Rattle.entry_pool.proofs.SlotLemmas.{get_within}
use Rattle.std.proofs.lemmas.Bool.Decides.{nat_tests}
use Rattle.std.proofs.lemmas.Map.Lookups.{exact_unsigned}
use Rattle.std.proofs.lemmas.List.Sums.{sum_by-cons}
use Rattle.entry_pool.specs.declared.slot_handle.Handle.{Handle}
use Rattle.entry_pool.specs.Contents as Pools
use Rattle.entry_pool.specs.Contents.{Contents, IsPool, entry_at}
use Rattle.stick_pooled.specs.Slots.{entries_of, found_in, IsDistinctIn, IsAlone}
use Rattle.stick_pooled.proofs.SlotLemmas.{sorted-entries, lookup-entries, missing, level, entries-insert, entries-remove, distinct-set}
use Rattle.stick_pooled.proofs.StoreCountLemmas.{length-entries, insert-last, all-keys-entries, all-entries, IsFound, found-is, found-at}
use Rattle.stick_model.specs.State.{same_ticket}
use Rattle.stick_model.specs.declared.rows.Ticket.{Ticket}
use Rattle.stick_pooled.specs.Tickets.{Tickets, told, no_tickets, is_unused, with_ticket, without_ticket}
use Rattle.stick_pooled.specs.Places.{placed, numbered, ticket_in, tickets_in, shown, IsSound}

abbrev P : Type 0
P = Option (Pools.Entry ℕ)

none_some : {X : Type 0} {x : X} → None ≡ Some x → ⊥
none_some e = cc

same_some : {X : Type 0} {x y : X} → Some x ≡ Some y → x ≡ y
same_some e = cc

-- ---- places with their numbers
pub numbered-get : (n : ℕ) (ps : List P) (i : ℕ) → get_or (numbered n ps) i None ≡ option_map (placed (n + i)) (get_or ps i None)
numbered-get n [] i = refl
numbered-get n (p ∷ ps) zero = let same : n ≡ n + 0 = omega arith in ap (λ m. option_map (placed m) p) same
numbered-get n (p ∷ ps) (suc i) = let same : n + 1 + i ≡ n + suc i = omega arith in numbered-get (n + 1) ps i ∙ ap (λ m. option_map (placed m) (get_or ps i None)) same

numbered-set : (n : ℕ) (ps : List P) (i : ℕ) (p : P) → numbered n (set ps i p) ≡ set (numbered n ps) i (option_map (placed (n + i)) p)
numbered-set n [] i p = refl
numbered-set n (q ∷ ps) zero p = let same : n ≡ n + 0 = omega arith in ap (λ m. option_map (placed m) p ∷ numbered (n + 1) ps) same
numbered-set n (q ∷ ps) (suc i) p = let same : n + 1 + i ≡ n + suc i = omega arith in ap (λ rest. option_map (placed n) q ∷ rest) (numbered-set (n + 1) ps i p ∙ ap (λ m. set (numbered (n + 1) ps) i (option_map (placed m) p)) same)

pub length-numbered : (n : ℕ) (ps : List P) → length (numbered n ps) ≡ length ps
length-numbered n [] = refl
length-numbered n (p ∷ ps) = let rest = length-numbered (n + 1) ps in omega (arith, rest)

some-placed : (n : ℕ) (p : P) → is_some (option_map (placed n) p) ≡ is_some p
some-placed n None = refl
some-placed n (Some e) = refl

pub count-numbered : (n : ℕ) (ps : List P) → count_by is_some (numbered n ps) ≡ count_by is_some ps
count-numbered n [] = refl
count-numbered n (p ∷ ps) =
    let rest = count-numbered (n + 1) ps in
    let one : ◌≡◌ {A = ℕ} (cond (is_some (option_map (placed n) p)) 1 0) (cond (is_some p) 1 0) = ap (λ b. cond {A = ℕ} b 1 0) (some-placed n p) in
    omega (arith, one, rest, sum_by-cons (λ (o : Option (ℕ × (ℕ × ℕ))). cond (is_some o) 1 0) (option_map (placed n) p) (numbered (n + 1) ps), sum_by-cons (λ (o : P). cond (is_some o) 1 0) p ps)

-- a place has what it shows
pub record IsPlaced (ps : List P) (i : ℕ) (e : ℕ × (ℕ × ℕ)) : Type 0 where
  pub there : get_or ps i None ≡ Some (record { generation = e.0; value = e.1.1 })
  pub place : e.1.0 ≡ i

placed-is : (i : ℕ) (p : P) (e : ℕ × (ℕ × ℕ)) → option_map (placed i) p ≡ Some e → (p ≡ Some (record { generation = e.0; value = e.1.1 })) × (e.1.0 ≡ i)
placed-is i None e is = absurd (none_some is)
placed-is i (Some d) e is = let one : placed i d ≡ e = same_some is in (ap (λ (x : ℕ × (ℕ × ℕ)). Some (record { generation = x.0; value = x.1.1 })) one, sym (ap (λ (x : ℕ × (ℕ × ℕ)). x.1.0) one))

is-placed : (ps : List P) (i : ℕ) (e : ℕ × (ℕ × ℕ)) → get_or (numbered 0 ps) i None ≡ Some e → IsPlaced ps i e
is-placed ps i e is =
    let zero-add : 0 + i ≡ i = omega arith in
    let m = placed-is i (get_or ps i None) e (ap (λ n. option_map (placed n) (get_or ps i None)) (sym zero-add) ∙ sym (numbered-get 0 ps i) ∙ is) in
    record { there = m.0; place = m.1 }

placed-at : (ps : List P) (i : ℕ) (d : Pools.Entry ℕ) → get_or ps i None ≡ Some d → get_or (numbered 0 ps) i None ≡ Some (d.generation, (i, d.value))
placed-at ps i d is = let zero-add : 0 + i ≡ i = omega arith in numbered-get 0 ps i ∙ ap (option_map (placed (0 + i))) is ∙ ap (λ n. Some (d.generation, (n, d.value))) zero-add

-- ---- numbers
not_tied : (a b : ℕ) → (a ≡ b → ⊥) → is_eq (nat_cmp a b) ≡ false
not_tied a b apart = elim (nat_cmp a b) as (λ o. nat_cmp a b ≡ o → is_eq o ≡ false) [ Less ↦ λ is. refl | Equal ↦ λ is. absurd (apart (exact_unsigned a b is)) | Greater ↦ λ is. refl ] refl

tied : (a b : ℕ) → a ≡ b → nat_cmp a b ≡ Equal
tied a b same = subst (λ c. nat_cmp a c ≡ Equal) same (tied_itself nat_cmp_total a)

same_number : (a b : ℕ) → is_eq (nat_cmp a b) ≡ eqb a b
same_number a b = elim (cases_eq a b) [ inl same ↦ ap is_eq (tied a b same) ∙ sym (eq-eqb a b same) | inr apart ↦ not_tied a b apart ∙ sym (ne_eqb a b apart) ]

-- ---- a ticket is found
picked : ℕ → Option (ℕ × ℕ) → Option ℕ
picked slot None = None
picked slot (Some x) = cond (eqb slot x.0) (Some x.1) None

lookup-told : (t : Ticket) (es : List (ℕ × (ℕ × ℕ))) → IsStrictlySortedBy nat_cmp (keys_of es) → lookup (same_ticket t) (map ticket_in es) ≡ picked t.slot (lookup (is_at (nat_cmp t.number)) es)
unfolding IsStrictlySortedBy picked
lookup-told t [] sorted = refl
lookup-told t (e ∷ es) sorted = go (lookup-told t es sorted.1) (nat_cmp t.number e.0) refl
  where
    go : lookup (same_ticket t) (map ticket_in es) ≡ picked t.slot (lookup (is_at (nat_cmp t.number)) es) → (o : Ordering) → nat_cmp t.number e.0 ≡ o
        → cond (eqb t.number e.0 && eqb t.slot e.1.0) (Some e.1.1) (lookup (same_ticket t) (map ticket_in es)) ≡ picked t.slot (cond (is_eq o) (Some e.1) (lookup (is_at (nat_cmp t.number)) es))
    go rest Less is = ap (λ b. cond (b && eqb t.slot e.1.0) (Some e.1.1) (lookup (same_ticket t) (map ticket_in es))) (sym (same_number t.number e.0) ∙ ap is_eq is) ∙ rest
    go rest Greater is = ap (λ b. cond (b && eqb t.slot e.1.0) (Some e.1.1) (lookup (same_ticket t) (map ticket_in es))) (sym (same_number t.number e.0) ∙ ap is_eq is) ∙ rest
    go rest Equal is =
        ap (λ b. cond (b && eqb t.slot e.1.0) (Some e.1.1) (lookup (same_ticket t) (map ticket_in es))) (sym (same_number t.number e.0) ∙ ap is_eq is)
        ∙ ap (λ o. cond (eqb t.slot e.1.0) (Some e.1.1) o) (rest ∙ ap (picked t.slot) (missing nat_cmp nat_cmp_total t.number es (level nat_cmp nat_cmp_total t.number e.0 is (keys_of es) sorted.0)))

value-none : (g : ℕ) (p : P) → ((d : Pools.Entry ℕ) → p ≡ Some d → d.generation ≡ g → ⊥) → Pools.value_of_generation g p ≡ None
value-none g None apart = refl
value-none g (Some d) apart = ap (λ b. cond b (Some d.value) None) (ne_eqb d.generation g (apart d refl))

-- a value that a handle finds is a slot's, of its generation
record IsValue (p : P) (g v : ℕ) : Type 0 where
  entry : Pools.Entry ℕ
  is : p ≡ Some entry
  dated : entry.generation ≡ g
  shows : entry.value ≡ v

value-some : (g v : ℕ) (p : P) → Pools.value_of_generation g p ≡ Some v → IsValue p g v
value-some g v None is = absurd (none_some is)
value-some g v (Some d) is = go (eqb d.generation g) refl is
  where
    go : (b : Bool) → eqb d.generation g ≡ b → cond b (Some d.value) None ≡ Some v → IsValue (Some d) g v
    go true same is = record { entry = d; is = refl; dated = eqb-true d.generation g same; shows = same_some is }
    go false same is = absurd (none_some is)

greater : (a b : ℕ) → b < a → nat_cmp a b ≡ Greater
greater a b less = grind (arith, nat_tests)

filter-told : (t : Ticket) (es : List (ℕ × (ℕ × ℕ))) → AllByRecursion (λ (e : ℕ × (ℕ × ℕ)). eqb t.number e.0 ≡ true → e.1.0 ≡ t.slot) es
    → map ticket_in (filter (λ (e : ℕ × (ℕ × ℕ)). not (is_eq (nat_cmp t.number e.0))) es) ≡ filter (λ (held : Ticket × ℕ). not (same_ticket t held.0)) (map ticket_in es)
filter-told t [] h = refl
filter-told t (e ∷ es) h = go (filter-told t es h.1) (eqb t.number e.0) refl
  where
    go : map ticket_in (filter (λ (e : ℕ × (ℕ × ℕ)). not (is_eq (nat_cmp t.number e.0))) es) ≡ filter (λ (held : Ticket × ℕ). not (same_ticket t held.0)) (map ticket_in es) → (b : Bool) → eqb t.number e.0 ≡ b
        → map ticket_in (cond (not (is_eq (nat_cmp t.number e.0))) (e ∷ filter (λ (e : ℕ × (ℕ × ℕ)). not (is_eq (nat_cmp t.number e.0))) es) (filter (λ (e : ℕ × (ℕ × ℕ)). not (is_eq (nat_cmp t.number e.0))) es))
        ≡ cond (not (eqb t.number e.0 && eqb t.slot e.1.0)) (ticket_in e ∷ filter (λ (held : Ticket × ℕ). not (same_ticket t held.0)) (map ticket_in es)) (filter (λ (held : Ticket × ℕ). not (same_ticket t held.0)) (map ticket_in es))
    go rest true is =
        ap (λ b. map ticket_in (cond (not b) (e ∷ filter (λ (e : ℕ × (ℕ × ℕ)). not (is_eq (nat_cmp t.number e.0))) es) (filter (λ (e : ℕ × (ℕ × ℕ)). not (is_eq (nat_cmp t.number e.0))) es))) (same_number t.number e.0 ∙ is)
        ∙ rest
        ∙ sym (ap (λ b. cond (not (b && eqb t.slot e.1.0)) (ticket_in e ∷ filter (λ (held : Ticket × ℕ). not (same_ticket t held.0)) (map ticket_in es)) (filter (λ (held : Ticket × ℕ). not (same_ticket t held.0)) (map ticket_in es))) is
        ∙ ap (λ b. cond (not b) (ticket_in e ∷ filter (λ (held : Ticket × ℕ). not (same_ticket t held.0)) (map ticket_in es)) (filter (λ (held : Ticket × ℕ). not (same_ticket t held.0)) (map ticket_in es))) (eq-eqb t.slot e.1.0 (sym (h.0 is))))
    go rest false is =
        ap (λ b. map ticket_in (cond (not b) (e ∷ filter (λ (e : ℕ × (ℕ × ℕ)). not (is_eq (nat_cmp t.number e.0))) es) (filter (λ (e : ℕ × (ℕ × ℕ)). not (is_eq (nat_cmp t.number e.0))) es))) (same_number t.number e.0 ∙ is)
        ∙ ap (λ fs. ticket_in e ∷ fs) rest
        ∙ sym (ap (λ b. cond (not (b && eqb t.slot e.1.0)) (ticket_in e ∷ filter (λ (held : Ticket × ℕ). not (same_ticket t held.0)) (map ticket_in es)) (filter (λ (held : Ticket × ℕ). not (same_ticket t held.0)) (map ticket_in es))) is)

all-told : (slot : ℕ) (es : List (ℕ × (ℕ × ℕ))) → AllByRecursion (λ (e : ℕ × (ℕ × ℕ)). eqb e.1.0 slot ≡ false) es → list_all (λ (held : Ticket × ℕ). not (nat_eq held.0.slot slot)) (map ticket_in es) ≡ true
all-told slot [] h = refl
all-told slot (e ∷ es) h = ap (λ b. not b && list_all (λ (held : Ticket × ℕ). not (nat_eq held.0.slot slot)) (map ticket_in es)) h.0 ∙ all-told slot es h.1

-- without one that isn't there all stay
pub filter-absent : {X : Type 0} (test : Ticket → Bool) (es : List (Ticket × X)) → lookup test es ≡ None → filter (λ (held : Ticket × X). not (test held.0)) es ≡ es
filter-absent test [] none = refl
filter-absent {X = X} test (e ∷ es) none = go (filter-absent test es) (test e.0) none
  where
    go : (lookup test es ≡ None → filter (λ (held : Ticket × X). not (test held.0)) es ≡ es) → (b : Bool) → cond b (Some e.1) (lookup test es) ≡ None → cond (not b) (e ∷ filter (λ (held : Ticket × X). not (test held.0)) es) (filter (λ (held : Ticket × X). not (test held.0)) es) ≡ e ∷ es
    go rest true none = absurd (none_some (sym none))
    go rest false none = ap (λ fs. e ∷ fs) (rest none)

module _ (ps : List P) (distinct : IsDistinctIn nat_cmp (numbered 0 ps)) where
  slots : List (Option (ℕ × (ℕ × ℕ)))
  slots = numbered 0 ps

  pub find-is : (t : Ticket) → lookup (same_ticket t) (tickets_in ps) ≡ Pools.value_of_generation t.number (get_or ps t.slot None)
  unfolding picked
  find-is t =
      lookup-told t (entries_of nat_cmp (numbered 0 ps)) (sorted-entries nat_cmp nat_cmp_total (numbered 0 ps))
      ∙ ap (picked t.slot) (lookup-entries nat_cmp nat_cmp_total t.number (numbered 0 ps))
      ∙ by_found (found_in nat_cmp t.number (numbered 0 ps)) refl
    where
      by_found : (o : Option (ℕ × ℕ)) → found_in nat_cmp t.number (numbered 0 ps) ≡ o → picked t.slot o ≡ Pools.value_of_generation t.number (get_or ps t.slot None)
      by_found None is = sym (value-none t.number (get_or ps t.slot None) (λ d there same.
          none_some (sym is ∙ found-at nat_cmp nat_cmp_total t.number d.generation (t.slot, d.value) (numbered 0 ps) t.slot distinct (placed-at ps t.slot d there) (tied t.number d.generation (sym same)))))
      by_found (Some x) is = by_slot (found-is nat_cmp t.number (numbered 0 ps) x is) (eqb t.slot x.0) refl
        where
          by_slot : IsFound nat_cmp t.number (numbered 0 ps) x → (b : Bool) → eqb t.slot x.0 ≡ b → cond b (Some x.1) None ≡ Pools.value_of_generation t.number (get_or ps t.slot None)
          by_slot f true same =
              let m = is-placed ps f.at (f.key, x) f.there in
              let at : f.at ≡ t.slot = sym m.place ∙ sym (eqb-true t.slot x.0 same) in
              sym (ap (λ i. Pools.value_of_generation t.number (get_or ps i None)) (sym at) ∙ ap (Pools.value_of_generation t.number) m.there
              ∙ ap (λ b. cond b (Some x.1) None) (eq-eqb f.key t.number (sym (exact_unsigned t.number f.key f.same))))
          by_slot f false apart = sym (value-none t.number (get_or ps t.slot None) (λ d there same.
              let m = is-placed ps f.at (f.key, x) f.there in
              let at : t.slot ≡ f.at = distinct t.slot f.at (d.generation, (t.slot, d.value)) (f.key, x) (placed-at ps t.slot d there) f.there (tied d.generation f.key (same ∙ exact_unsigned t.number f.key f.same)) in
              eqb-false t.slot x.0 apart (at ∙ sym m.place)))

  pub length-is : length (tickets_in ps) ≡ count_by is_some ps
  length-is = length-map (entries_of nat_cmp (numbered 0 ps)) ticket_in ∙ length-entries nat_cmp nat_cmp_total (numbered 0 ps) distinct ∙ count-numbered 0 ps

  -- ---- a ticket is taken back
  pub removed-is : (t : Ticket) (v : ℕ) → Pools.value_of_generation t.number (get_or ps t.slot None) ≡ Some v → tickets_in (set ps t.slot None) ≡ filter (λ (held : Ticket × ℕ). not (same_ticket t held.0)) (tickets_in ps)
  removed-is t v is =
      let f = value-some t.number v (get_or ps t.slot None) is in
      let here : get_or (numbered 0 ps) t.slot None ≡ Some (f.entry.generation, (t.slot, f.entry.value)) = placed-at ps t.slot f.entry f.is in
      let alone : IsAlone nat_cmp (numbered 0 ps) t.slot t.number = record {
        within = subst (λ n. t.slot < n) (sym (length-numbered 0 ps)) (get_within ps t.slot f.entry f.is);
        only = λ j e there same. distinct j t.slot e (f.entry.generation, (t.slot, f.entry.value)) there here (tied e.0 f.entry.generation (sym (exact_unsigned t.number e.0 same) ∙ sym f.dated));
        no_other = λ e there. tied t.number e.0 (sym f.dated ∙ ap (λ (x : ℕ × (ℕ × ℕ)). x.0) (same_some (sym here ∙ there)));
      } in
      let es : List (ℕ × (ℕ × ℕ)) = entries_of nat_cmp (numbered 0 ps) in
      ap (λ s. map ticket_in (entries_of nat_cmp s)) (numbered-set 0 ps t.slot None)
      ∙ ap (map ticket_in) (entries-remove nat_cmp nat_cmp_total exact_unsigned t.number (numbered 0 ps) t.slot alone)
      ∙ filter-told t (entries_of nat_cmp (numbered 0 ps)) (all-entries nat_cmp exact_unsigned (λ (e : ℕ × (ℕ × ℕ)). eqb t.number e.0 ≡ true → e.1.0 ≡ t.slot) (numbered 0 ps) (λ j e there tested.
      let m = is-placed ps j e there in
      m.place ∙ distinct j t.slot e (f.entry.generation, (t.slot, f.entry.value)) there here (tied e.0 f.entry.generation (sym (eqb-true t.number e.0 tested) ∙ sym f.dated))))

  -- ---- a ticket is made
  module _ (slot number v : ℕ) (free : get_or ps slot None ≡ None) (inside : slot < length ps) (above : (j : ℕ) (d : Pools.Entry ℕ) → get_or ps j None ≡ Some d → d.generation < number) where
    alone_new : IsAlone nat_cmp (numbered 0 ps) slot number
    alone_new = record {
      within = subst (λ n. slot < n) (sym (length-numbered 0 ps)) inside;
      only = λ j e there same. let m = is-placed ps j e there in let less = above j _ m.there in let one : number ≡ e.0 = exact_unsigned number e.0 same in absurd (omega (arith, less, one));
      no_other = λ e there. let m = is-placed ps slot e there in absurd (none_some (sym free ∙ m.there));
    }

    pub made-distinct : IsDistinctIn nat_cmp (numbered 0 (set ps slot (Some (record { generation = number; value = v }))))
    made-distinct =
        let zero-add : 0 + slot ≡ slot = omega arith in
        subst (IsDistinctIn nat_cmp) (sym (numbered-set 0 ps slot (Some (record { generation = number; value = v })) ∙ ap (λ n. set (numbered 0 ps) slot (Some (number, (n, v)))) zero-add))
        (distinct-set nat_cmp nat_cmp_total number (slot, v) (numbered 0 ps) slot distinct alone_new)

    pub made-is : tickets_in (set ps slot (Some (record { generation = number; value = v }))) ≡ tickets_in ps ++ (record { number = number; slot = slot }, v) ∷ []
    made-is =
        let zero-add : 0 + slot ≡ slot = omega arith in
        ap (λ s. map ticket_in (entries_of nat_cmp s)) (numbered-set 0 ps slot (Some (record { generation = number; value = v })) ∙ ap (λ n. set (numbered 0 ps) slot (Some (number, (n, v)))) zero-add)
        ∙ ap (map ticket_in) (entries-insert nat_cmp nat_cmp_total exact_unsigned number (slot, v) (numbered 0 ps) slot alone_new
        ∙ insert-last nat_cmp number (slot, v) (entries_of nat_cmp (numbered 0 ps)) (all-keys-entries nat_cmp (λ y. nat_cmp number y ≡ Greater) (numbered 0 ps) (λ j e there.
        let m = is-placed ps j e there in greater number e.0 (above j _ m.there))))
        ∙ map-append ticket_in (entries_of nat_cmp (numbered 0 ps)) ((number, (slot, v)) ∷ [])

    pub unused-is : list_all (λ (held : Ticket × ℕ). not (nat_eq held.0.slot slot)) (tickets_in ps) ≡ true
    unused-is = all-told slot (entries_of nat_cmp (numbered 0 ps)) (all-entries nat_cmp exact_unsigned (λ (e : ℕ × (ℕ × ℕ)). eqb e.1.0 slot ≡ false) (numbered 0 ps) (λ j e there.
        let m = is-placed ps j e there in
        ne_eqb e.1.0 slot (λ same. none_some (sym free ∙ ap (λ i. get_or ps i None) (sym same ∙ m.place) ∙ m.there))))

-- ---- what every book keeps
pub kept-without : (pool : Contents ℕ) (handle : Handle) → IsSound pool → IsSound (Pools.without pool handle)
kept-without pool handle kept = record {
  pooled = record {
    sized = length-set pool.slots handle.slot None ∙ kept.pooled.sized;
    dated = λ slot e there. kept.pooled.dated slot e (was slot e there (cases_eq slot handle.slot));
  };
  distinct = λ i j d e one other same.
      let m = is-placed (set pool.slots handle.slot None) i d one in
      let n = is-placed (set pool.slots handle.slot None) j e other in
      kept.distinct i j d e (again i d one m (cases_eq i handle.slot)) (again j e other n (cases_eq j handle.slot)) same;
}
  where
    was : (slot : ℕ) (e : Pools.Entry ℕ) → get_or (set pool.slots handle.slot None) slot None ≡ Some e → (slot ≡ handle.slot) ⊎ (slot ≡ handle.slot → ⊥) → get_or pool.slots slot None ≡ Some e
    was slot e there (inl same) = absurd (gone same)
      where
        gone : slot ≡ handle.slot → ⊥
        gone same = elim (cases_lt slot (length pool.slots)) [
          | inl inside ↦ none_some (sym (ap (λ i. get_or (set pool.slots i None) slot None) (sym same) ∙ get_or-set_same pool.slots slot None None inside) ∙ there)
          | inr past ↦ none_some (sym (get_or_past (set pool.slots handle.slot None) slot None (subst (λ n. n ≤ slot) (sym (length-set pool.slots handle.slot None)) past)) ∙ there)
        ]
    was slot e there (inr apart) = sym (get_or-set_other pool.slots handle.slot slot None None apart) ∙ there

    again : (i : ℕ) (d : ℕ × (ℕ × ℕ)) → get_or (numbered 0 (set pool.slots handle.slot None)) i None ≡ Some d → IsPlaced (set pool.slots handle.slot None) i d → (i ≡ handle.slot) ⊎ (i ≡ handle.slot → ⊥) → get_or (numbered 0 pool.slots) i None ≡ Some d
    again i d there m c = placed-at pool.slots i (record { generation = d.0; value = d.1.1 }) (was i (record { generation = d.0; value = d.1.1 }) m.there c) ∙ ap (λ n. Some (d.0, (n, d.1.1))) (sym m.place)

pub kept-inserted : (pool : Contents ℕ) (handle : Handle) (v : ℕ) → IsSound pool → pool.newest < handle.generation → handle.slot < pool.capacity → entry_at pool handle.slot ≡ None → IsSound (Pools.with_inserted pool handle v)
kept-inserted pool handle v kept newer inside free = record {
  pooled = record {
    sized = length-set pool.slots handle.slot (Some (Pools.entry handle.generation v)) ∙ kept.pooled.sized;
    dated = λ slot e there. dated slot e there (cases_eq slot handle.slot);
  };
  distinct = made-distinct pool.slots kept.distinct handle.slot handle.generation v free (subst (λ n. handle.slot < n) (sym kept.pooled.sized) inside)
      (λ j d there. let most = kept.pooled.dated j d there in omega (arith, most, newer));
}
  where
    dated : (slot : ℕ) (e : Pools.Entry ℕ) → get_or (set pool.slots handle.slot (Some (Pools.entry handle.generation v))) slot None ≡ Some e → (slot ≡ handle.slot) ⊎ (slot ≡ handle.slot → ⊥) → e.generation ≤ handle.generation
    dated slot e there (inl same) =
        let one : Some (Pools.entry handle.generation v) ≡ Some e = sym (get_or-set_same pool.slots handle.slot (Some (Pools.entry handle.generation v)) None (subst (λ n. handle.slot < n) (sym kept.pooled.sized) inside)) ∙ ap (λ i. get_or (set pool.slots handle.slot (Some (Pools.entry handle.generation v))) i None) (sym same) ∙ there in
        let g : handle.generation ≡ e.generation = ap (λ (x : Pools.Entry ℕ). x.generation) (same_some one) in
        omega (arith, g)
    dated slot e there (inr apart) =
        let most = kept.pooled.dated slot e (sym (get_or-set_other pool.slots handle.slot slot (Some (Pools.entry handle.generation v)) None apart) ∙ there) in
        omega (arith, most, newer)

-- ---- a new book
no-entries : (n count : ℕ) → ◌≡◌ {A = List (ℕ × (ℕ × ℕ))} (entries_of nat_cmp (numbered n (replicate count None))) []
no-entries n zero = refl
no-entries n (suc count) = no-entries (n + 1) count

no-place : (count i : ℕ) (d : Pools.Entry ℕ) → get_or (replicate count None) i None ≡ Some d → ⊥
no-place count i d one = elim (cases_lt i count) [
  | inl h ↦ none_some (sym (get_or-replicate count i None None h) ∙ one)
  | inr h ↦ none_some (sym (get_or_past (replicate count None) i None (subst (λ m. m ≤ i) (sym (length-replicate count None)) h)) ∙ one)
]

pub new-shown : (pool : Contents ℕ) (capacity : ℕ) → pool ≡ Pools.empty capacity → shown pool ≡ no_tickets capacity
new-shown pool capacity is = ap shown is ∙ ap (λ es. told capacity 0 (map ticket_in es)) (no-entries 0 capacity)

pub new-sound : (pool : Contents ℕ) (capacity : ℕ) → pool ≡ Pools.empty capacity → IsSound pool
new-sound pool capacity is = subst IsSound (sym is) (record {
  pooled = record { sized = length-replicate capacity None; dated = λ slot e there. absurd (no-place capacity slot e there) };
  distinct = λ i j d e one other same. absurd (no-place capacity i _ (is-placed (replicate capacity None) i d one).there);
})

-- ---- what the calls leave
pub insert-shown : (pool : Contents ℕ) (handle : Handle) (v : ℕ) → IsSound pool → pool.newest < handle.generation → handle.slot < pool.capacity → entry_at pool handle.slot ≡ None
    → shown (Pools.with_inserted pool handle v) ≡ with_ticket (shown pool) (record { number = handle.generation; slot = handle.slot }) v
insert-shown pool handle v kept newer inside free =
    ap (λ tickets. told pool.capacity handle.generation tickets)
    (made-is pool.slots kept.distinct handle.slot handle.generation v free (subst (λ n. handle.slot < n) (sym kept.pooled.sized) inside) (λ j d there. let most = kept.pooled.dated j d there in omega (arith, most, newer)))

pub insert-unused : (pool : Contents ℕ) (handle : Handle) (v : ℕ) → IsSound pool → pool.newest < handle.generation → handle.slot < pool.capacity → entry_at pool handle.slot ≡ None → is_unused handle.slot (shown pool) ≡ true
insert-unused pool handle v kept newer inside free =
    unused-is pool.slots kept.distinct handle.slot handle.generation v free (subst (λ n. handle.slot < n) (sym kept.pooled.sized) inside) (λ j d there. let most = kept.pooled.dated j d there in omega (arith, most, newer))

pub not-full : (pool : Contents ℕ) (book : Tickets) → IsSound pool → shown pool ≡ book → length book.tickets < book.capacity → Pools.IsFull pool → ⊥
not-full pool book kept is room full =
    let counted : length book.tickets ≡ count_by is_some pool.slots = ap (λ (t : Tickets). length t.tickets) (sym is) ∙ length-is pool.slots kept.distinct in
    let sized : book.capacity ≡ pool.capacity = ap (λ (t : Tickets). t.capacity) (sym is) in
    omega (arith, room, full, counted, sized)

pub after-remove : (pool new : Contents ℕ) (t : Ticket) (r : Option ℕ) → IsSound pool → r ≡ Pools.find pool (record { slot = t.slot; generation = t.number })
    → (IsSome r → new ≡ Pools.without pool (record { slot = t.slot; generation = t.number })) → IfNone r (new ≡ pool) → IsSound new × (shown new ≡ without_ticket (shown pool) t)
after-remove pool new t (Some v) kept value removed absent = (
  subst IsSound (sym (removed refl)) (kept-without pool (record { slot = t.slot; generation = t.number }) kept),
  ap shown (removed refl) ∙ ap (λ tickets. told pool.capacity pool.newest tickets) (removed-is pool.slots kept.distinct t v (sym value)),
)
after-remove pool new t None kept value removed absent = (
  subst IsSound (sym absent) kept,
  ap shown absent ∙ sym (ap (λ tickets. told pool.capacity pool.newest tickets) (filter-absent (same_ticket t) (tickets_in pool.slots) (find-is pool.slots kept.distinct t ∙ sym value))),
)
