-- A search along a chain.
use Rattle.std.proofs.Common.{◌≡◌, ◌≢◌, ◌⊎◌, inl, inr, ℕ, ◌^◌, ◌<◌, ◌≤◌, eqb, List, [], ◌∷◌, ◌++◌, length, Option, sym, subst, ◌∙◌, arith, append_assoc}
use Rattle.std.specs.List.{IsDistinct}
use Rattle.key_index.specs.Chains.{IsAmong, HoldsKey, IsChain, IsBefore, LeadsTo, link_at, steps_left}
use Rattle.key_index.specs.declared.Node.{Node}
use Rattle.key_index.specs.declared.Link.{Link}
use Rattle.entry_pool.specs.declared.slot_handle.TheConstants.{NONE}
use Rattle.key_index.proofs.AmongLemmas.{distinct-tail, among_at}
use Rattle.key_index.proofs.ChainLemmas.{chain_inside, chain_fits, steps_are}

nearer_by_one : (links : List Link) (at s : ℕ) (slots : List ℕ) → length links ≤ 2 ^ 30 → IsChain links at (s ∷ slots) → IsDistinct eqb (s ∷ slots)
    → IsChain links (link_at links at).next slots × (steps_left links (length links) (link_at links at).next < steps_left links (length links) at)
nearer_by_one links at s slots small p distinct =
    let next : IsChain links (link_at links at).next slots = subst (λ k. IsChain links (link_at links k).next slots) (sym p.0) p.2 in
    let fits = chain_fits links at (s ∷ slots) p distinct in
    let all = steps_are links (length links) at (s ∷ slots) small p fits in
    let rest = steps_are links (length links) (link_at links at).next slots small next (omega arith) in
    (next, omega arith)

-- a walk from `first` to a slot: what is left of the chain has the slot, and the one before stands right before what is left
pub record Approaches (links : List Link) (first before at slot : ℕ) : Type 0 where
  pub slots : List ℕ
  pub linked : IsChain links at slots
  pub distinct : IsDistinct eqb slots
  pub among : IsAmong slot slots
  pub came : ((before ≡ NONE) × (at ≡ first)) ⊎ ((front : List ℕ) × IsChain links first (front ++ before ∷ slots))

-- the slot where a walk stands has a link, and by it the walk goes on
pub record StandsAt (links : List Link) (first at slot : ℕ) : Type 0 where
  pub inside : at < length links
  pub on : Approaches links first at (link_at links at).next slot
  pub nearer : steps_left links (length links) (link_at links at).next < steps_left links (length links) at

pub stands : (links : List Link) (first before at slot : ℕ) → length links ≤ 2 ^ 30 → at ≢ slot → Approaches links first before at slot → StandsAt links first at slot
stands links first before at slot small other a = by_slots a.slots a.linked a.distinct a.among a.came
  where
    by_slots : (slots : List ℕ) → IsChain links at slots → IsDistinct eqb slots → IsAmong slot slots
        → ((before ≡ NONE) × (at ≡ first)) ⊎ ((front : List ℕ) × IsChain links first (front ++ before ∷ slots)) → StandsAt links first at slot
    by_slots [] p distinct among came = absurd among
    by_slots (s ∷ slots) p distinct among came =
        let on = nearer_by_one links at s slots small p distinct in
        let later : IsAmong slot slots = elim among [ inl same ↦ absurd (other (p.0 ∙ sym same)) | inr there ↦ there ] in
        let behind : (front : List ℕ) × IsChain links first (front ++ at ∷ slots) = elim came [
          | inl begun ↦ ([], subst (λ k. IsChain links k (at ∷ slots)) begun.1 (subst (λ k. IsChain links at (k ∷ slots)) (sym p.0) p))
          | inr f ↦ (
            f.0 ++ before ∷ [],
            subst (IsChain links first) (sym (append_assoc f.0 (before ∷ []) (at ∷ slots))) (subst (λ k. IsChain links first (f.0 ++ before ∷ (k ∷ slots))) (sym p.0) f.1),
          )
        ] in
        record {
          inside = subst (λ k. k < length links) (sym p.0) p.1;
          on = record { slots = slots; linked = on.0; distinct = distinct-tail s slots distinct; among = later; came = inr behind };
          nearer = on.1;
        }

-- where the walk has come to the slot, it tells what stands before it
pub arrives : (links : List Link) (first before at slot : ℕ) → at ≡ slot → Approaches links first before at slot → ((before ≡ NONE) × (first ≡ slot)) ⊎ IsBefore links first before slot
arrives links first before at slot here a = elim a.came [
  | inl begun ↦ inl (begun.0, sym begun.1 ∙ here)
  | inr f ↦ inr (by_slots f.0 a.slots a.linked a.among f.1)
]
  where
    by_slots : (front slots : List ℕ) → IsChain links at slots → IsAmong slot slots → IsChain links first (front ++ before ∷ slots) → IsBefore links first before slot
    by_slots front [] p among all = absurd among
    by_slots front (s ∷ back) p among all = (front, back, subst (λ k. IsChain links first (front ++ before ∷ (k ∷ back))) (sym p.0 ∙ here) all)

-- the slot before another has a link
pub before_inside : (links : List Link) (first before slot : ℕ) → ((before ≡ NONE) × (first ≡ slot)) ⊎ IsBefore links first before slot → before ≢ NONE → before < length links
before_inside links first before slot way some = elim way [
  | inl begun ↦ absurd (some begun.0)
  | inr b ↦ chain_inside links first (b.0 ++ before ∷ (slot ∷ b.1)) before b.2 (among_at b.0 before (slot ∷ b.1))
]

-- at no slot, no slot has the key
pub leads_end : (links : List Link) (nodes : List (Option Node)) (key : List ℕ) → length links ≤ 2 ^ 30 → LeadsTo links nodes NONE key → (slot : ℕ) → HoldsKey nodes slot key → ⊥
leads_end links nodes key small a slot holds = by_slots a.slots a.linked (a.complete slot holds)
  where
    by_slots : (slots : List ℕ) → IsChain links NONE slots → IsAmong slot slots → ⊥
    by_slots [] p among = among
    by_slots (s ∷ slots) p among = omega (arith, p.0, p.1)

-- the slot where a search stands has a link
pub leads_inside : (links : List Link) (nodes : List (Option Node)) (at : ℕ) (key : List ℕ) → at ≢ NONE → LeadsTo links nodes at key → at < length links
leads_inside links nodes at key some a = by_slots a.slots a.linked
  where
    by_slots : (slots : List ℕ) → IsChain links at slots → at < length links
    by_slots [] p = absurd (some p)
    by_slots (s ∷ slots) p = subst (λ k. k < length links) (sym p.0) p.1

-- where that slot does not have the key, the search goes on behind it
pub leads_on : (links : List Link) (nodes : List (Option Node)) (at : ℕ) (key : List ℕ) → length links ≤ 2 ^ 30 → at ≢ NONE → (HoldsKey nodes at key → ⊥) → LeadsTo links nodes at key
    → LeadsTo links nodes (link_at links at).next key × (steps_left links (length links) (link_at links at).next < steps_left links (length links) at)
leads_on links nodes at key small some other a = by_slots a.slots a.linked a.distinct a.complete
  where
    by_slots : (slots : List ℕ) → IsChain links at slots → IsDistinct eqb slots → ((slot : ℕ) → HoldsKey nodes slot key → IsAmong slot slots)
        → LeadsTo links nodes (link_at links at).next key × (steps_left links (length links) (link_at links at).next < steps_left links (length links) at)
    by_slots [] p distinct complete = absurd (some p)
    by_slots (s ∷ slots) p distinct complete =
        let on = nearer_by_one links at s slots small p distinct in (
          record {
            slots = slots;
            linked = on.0;
            distinct = distinct-tail s slots distinct;
            complete = λ slot holds. elim (complete slot holds) [
              | inl first ↦ absurd (other (subst (λ k. HoldsKey nodes k key) (first ∙ sym p.0) holds))
              | inr later ↦ later
            ];
          },
          on.1,
        )
