-- What each call keeps of what every store keeps.
use Rattle.std.proofs.Common.{◌≡◌, ◌≢◌, ℕ, ◌<◌, ◌⊎◌, inl, inr, eqb, List, length, get_or, set, Option, Some, None, IsSome, refl, sym, ap, subst, ◌∙◌}
use Rattle.std.specs.Prelude.{◌↔◌}
use Rattle.std.specs.Option.{option_map}
use Rattle.std.specs.List.{IsDistinct, Contains}
use Rattle.std.proofs.lemmas.List.{get_or-set_same, get_or-set_other}
use Rattle.std.proofs.lemmas.Bool.{cases_eq}
use Rattle.stored_data.specs.declared.stored_set.Column.{Column}
use Rattle.stored_data.specs.declared.values.StoredValue.{StoredValue}
use Rattle.expiry_order.specs.Queue.{without}
use Rattle.stick_pooled.specs.Stock.{Held, Stock, stock, held_at, IsAbsent, IsFree, IsStock, entered, with_inserted, without_slot, with_entry, with_values}
use Rattle.stick_pooled.specs.declared.entry.Entry.{Entry}
use Rattle.stick_pooled.specs.declared.entry.Kept.{Kept}
use Rattle.stick_pooled.proofs.QueueLemmas.{in_without, without_has, distinct_without, distinct_entered, in_entered, entered_has, entered_others}

pub none_some : {X : Type 0} {x : X} → None ≡ Some x → ⊥
none_some e = cc

pub same_some : {X : Type 0} {x y : X} → Some x ≡ Some y → x ≡ y
same_some e = cc

-- a slot's entry, which no reference holds
record IsFreeIn (o : Option Held) : Type 0 where
  held : Held
  is : o ≡ Some held
  alone : held.entry.refs ≡ 0

-- one slot is written, and the queue has it where it is to
stock-set : (s : Stock) (columns : List Column) (newest slot : ℕ) (o : Option Held) (queue : List ℕ) (base : List (Option Kept)) → IsStock s → slot < length s.slots
    → ((h : Held) (j : ℕ) (e : Held) → o ≡ Some h → held_at s j ≡ Some e → e.key ≡ h.key → j ≡ slot)
    → IsDistinct eqb queue → (Contains queue slot → IsFreeIn o) → (IsFreeIn o → Contains queue slot) → ((j : ℕ) → j ≢ slot → Contains queue j ↔ Contains s.queue j)
    → IsStock (stock columns newest (set s.slots slot o) queue base)
stock-set s columns newest slot o queue base kept inside lone once own_in own_has others = record {
  distinct = λ i j d e at_i at_j same. by_places i j d e at_i at_j same (cases_eq i slot) (cases_eq j slot);
  once = once;
  queued = λ j. by_place j (cases_eq j slot);
}
  where
    here : get_or (set s.slots slot o) slot None ≡ o
    here = get_or-set_same s.slots slot o None inside

    there : (j : ℕ) → j ≢ slot → get_or (set s.slots slot o) j None ≡ held_at s j
    there j apart = get_or-set_other s.slots slot j o None apart

    at_slot : (i : ℕ) (d : Held) → i ≡ slot → get_or (set s.slots slot o) i None ≡ Some d → o ≡ Some d
    at_slot i d same at = sym here ∙ ap (λ k. get_or (set s.slots slot o) k None) (sym same) ∙ at

    by_places : (i j : ℕ) (d e : Held) → get_or (set s.slots slot o) i None ≡ Some d → get_or (set s.slots slot o) j None ≡ Some e → d.key ≡ e.key → (i ≡ slot) ⊎ (i ≢ slot) → (j ≡ slot) ⊎ (j ≢ slot) → i ≡ j
    by_places i j d e at_i at_j same (inl one) (inl other) = one ∙ sym other
    by_places i j d e at_i at_j same (inl one) (inr other) = one ∙ sym (lone d j e (at_slot i d one at_i) (sym (there j other) ∙ at_j) (sym same))
    by_places i j d e at_i at_j same (inr one) (inl other) = lone e i d (at_slot j e other at_j) (sym (there i one) ∙ at_i) same ∙ sym other
    by_places i j d e at_i at_j same (inr one) (inr other) = kept.distinct i j d e (sym (there i one) ∙ at_i) (sym (there j other) ∙ at_j) same

    by_place : (j : ℕ) → (j ≡ slot) ⊎ (j ≢ slot) → Contains queue j ↔ IsFree (stock columns newest (set s.slots slot o) queue base) j
    by_place j (inl same) = (
      (λ h. let f = own_in (subst (Contains queue) same h) in record { held = f.held; there = ap (λ k. get_or (set s.slots slot o) k None) same ∙ here ∙ f.is; alone = f.alone }),
      (λ f. subst (Contains queue) (sym same) (own_has (record { held = f.held; is = at_slot j f.held same f.there; alone = f.alone }))),
    )
    by_place j (inr apart) = (
      (λ h. let f = (kept.queued j).0 ((others j apart).0 h) in record { held = f.held; there = there j apart ∙ f.there; alone = f.alone }),
      (λ f. (others j apart).1 ((kept.queued j).1 (record { held = f.held; there = sym (there j apart) ∙ f.there; alone = f.alone }))),
    )

-- a slot with nothing isn't in the queue
pub not_queued : (s : Stock) (slot : ℕ) → IsStock s → held_at s slot ≡ None → ¬ (Contains s.queue slot)
not_queued s slot kept free h = let f = (kept.queued slot).0 h in none_some (sym free ∙ f.there)

pub inserted : (s : Stock) (slot : ℕ) (new : Held) → IsStock s → slot < length s.slots → held_at s slot ≡ None → IsAbsent s new.key → IsStock (with_inserted s slot new)
inserted s slot new kept inside free absent =
    stock-set s s.columns new.generation slot (Some new) (entered s.queue slot new.entry.refs) s.base kept inside
    (λ h j e is at same. absurd (absent j e at (same ∙ sym (ap (λ (x : Held). x.key) (same_some is)))))
    (distinct_entered s.queue slot new.entry.refs kept.once (not_queued s slot kept free))
    (λ h. record { held = new; is = refl; alone = in_entered s.queue slot new.entry.refs (not_queued s slot kept free) h })
    (λ f. entered_has s.queue slot new.entry.refs (ap (λ (x : Held). x.entry.refs) (same_some f.is) ∙ f.alone))
    (entered_others s.queue slot new.entry.refs)

without_others : (queue : List ℕ) (slot j : ℕ) → j ≢ slot → Contains (without queue slot) j ↔ Contains queue j
without_others queue slot j apart = ((λ h. (in_without queue j slot h).0), (λ h. without_has queue j slot h apart))

pub not_without : (queue : List ℕ) (slot : ℕ) → ¬ (Contains (without queue slot) slot)
not_without queue slot h = (in_without queue slot slot h).1 refl

pub removed : (s : Stock) (slot : ℕ) → IsStock s → slot < length s.slots → IsStock (without_slot s slot)
removed s slot kept inside =
    stock-set s s.columns s.newest slot None (without s.queue slot) s.base kept inside
    (λ h j e is. absurd (none_some is))
    (distinct_without s.queue slot kept.once)
    (λ h. absurd (not_without s.queue slot h))
    (λ f. absurd (none_some f.is))
    (without_others s.queue slot)

-- the entry of a slot is another, of the same key
rewritten : (s : Stock) (slot : ℕ) (h : Held) (change : Held → Held) (queue : List ℕ) → IsStock s → slot < length s.slots → held_at s slot ≡ Some h → (change h).key ≡ h.key
    → IsDistinct eqb queue → (Contains queue slot → (change h).entry.refs ≡ 0) → ((change h).entry.refs ≡ 0 → Contains queue slot) → ((j : ℕ) → j ≢ slot → Contains queue j ↔ Contains s.queue j)
    → IsStock (stock s.columns s.newest (set s.slots slot (option_map change (held_at s slot))) queue s.base)
rewritten s slot h change queue kept inside there keyed once own_in own_has others =
    let is : option_map change (held_at s slot) ≡ Some (change h) = ap (option_map change) there in
    stock-set s s.columns s.newest slot (option_map change (held_at s slot)) queue s.base kept inside
    (λ g j e at e_at same. kept.distinct j slot e h e_at there (same ∙ sym (ap (λ (x : Held). x.key) (same_some (sym is ∙ at))) ∙ keyed))
    once
    (λ q. record { held = change h; is = is; alone = own_in q })
    (λ f. own_has (ap (λ (x : Held). x.entry.refs) (same_some (sym is ∙ f.is)) ∙ f.alone))
    others

pub refreshed : (s : Stock) (slot : ℕ) (h : Held) (entry : Entry) → IsStock s → slot < length s.slots → held_at s slot ≡ Some h → IsStock (with_entry s slot entry)
refreshed s slot h entry kept inside there =
    rewritten s slot h (λ (held : Held). record held { entry = entry }) (entered (without s.queue slot) slot entry.refs) kept inside there refl
    (distinct_entered (without s.queue slot) slot entry.refs (distinct_without s.queue slot kept.once) (not_without s.queue slot))
    (in_entered (without s.queue slot) slot entry.refs (not_without s.queue slot))
    (entered_has (without s.queue slot) slot entry.refs)
    (λ j apart. let e = entered_others (without s.queue slot) slot entry.refs j apart in let w = without_others s.queue slot j apart in ((λ q. w.0 (e.0 q)), (λ q. e.1 (w.1 q))))

pub revalued : (s : Stock) (slot : ℕ) (h : Held) (change : List StoredValue → List StoredValue) → IsStock s → slot < length s.slots → held_at s slot ≡ Some h → IsStock (with_values s slot change)
revalued s slot h change kept inside there =
    rewritten s slot h (λ (held : Held). record held { values = change held.values }) s.queue kept inside there refl kept.once
    (λ q. let f = (kept.queued slot).0 q in ap (λ (x : Held). x.entry.refs) (same_some (sym there ∙ f.there)) ∙ f.alone)
    (λ alone. (kept.queued slot).1 (record { held = h; there = there; alone = alone }))
    (λ j apart. ((λ q. q), (λ q. q)))

-- an entry that is there is one
pub some_entry : (o : Option Held) → IsSome o → IsSome (option_map (λ (held : Held). held.entry) o)
some_entry None some = some
some_entry (Some held) some = refl
