-- All chains, where the slot before is linked past one that leaves.
use Rattle.std.proofs.Common.{◌≡◌, ◌≢◌, ◌⊎◌, inl, inr, ℕ, ◌<◌, Bool, true, false, eqb, cond, List, [], ◌∷◌, ◌++◌, length, get_or, set, Option, None, refl, sym, ap, subst, ◌∙◌, arith, length-set, append_assoc}
use Rattle.std.proofs.lemmas.List.{get_or-set_same, get_or-set_other}
use Rattle.std.specs.List.{IsDistinct}
use Rattle.entry_pool.proofs.DistinctSlots.{Off-cut, distinct-cut}
use Rattle.key_index.specs.Chains.{bucket_of, IsAmong, HasNode, IsChain, IsBefore, IsSound, link_at, no_link, links_with_next, heads_with_next}
use Rattle.key_index.specs.declared.Node.{Node}
use Rattle.key_index.specs.declared.Link.{Link}
use Rattle.entry_pool.specs.declared.slot_handle.TheConstants.{NONE}
use Rattle.key_index.proofs.AmongLemmas.{cut_among, among_at, apart_from}
use Rattle.key_index.proofs.NodeLemmas.{not_none, same_node}
use Rattle.key_index.proofs.ChainLemmas.{chain_inside, chain_unique, chain_same, chain_splice, chain_rest, front_empty}
use Rattle.key_index.proofs.SoundLemmas.{sound-without}

module _ (links : List Link) (nodes : List (Option Node)) (heads : List ℕ) (seed slot bucket : ℕ) (node : Node) (sound : IsSound links nodes heads seed)
    (has : HasNode nodes slot node) (inside : bucket < length heads) (home : bucket_of seed (length heads) node.key ≡ bucket) where
  abbrev next : ℕ
  next = (link_at links slot).next

  abbrev first : ℕ
  first = get_or heads bucket NONE

  -- the slot begins its chain
  head-removed : first ≡ slot → IsSound links (set nodes slot None) (set heads bucket next) seed
  head-removed head =
      let old = sound.chains bucket inside in
      let cut = cut_among slot old.slots (old.complete slot node has home) in
      let distinct = subst (IsDistinct eqb) cut.is old.distinct in
      let linked = subst (IsChain links first) cut.is old.linked in
      let empty = front_empty links cut.front cut.back first slot linked head distinct in
      let rest = chain_rest links first cut.front slot cut.back linked in
      sound-without links nodes heads seed slot bucket node sound inside home links (set heads bucket next) [] cut.back has refl (length-set heads bucket next)
      (λ b ne. get_or-set_other heads bucket b next NONE ne) (λ q n hasq away. refl)
      (subst (λ f. old.slots ≡ f ++ slot ∷ cut.back) empty cut.is)
      (subst (λ k. IsChain links k cut.back) (sym (get_or-set_same heads bucket next NONE inside)) rest)

  -- the slot is behind another in its chain
  behind-removed : (p : ℕ) → IsBefore links first p slot → IsSound (set links p (record { next = next; tag = (link_at links p).tag })) (set nodes slot None) heads seed
  behind-removed p (front, back, linked) =
      let old = sound.chains bucket inside in
      let small = sound.small in let long = sound.long in
      let is : old.slots ≡ front ++ p ∷ (slot ∷ back) = chain_unique links first old.slots (front ++ p ∷ (slot ∷ back)) (omega arith) old.linked linked in
      let split : front ++ p ∷ (slot ∷ back) ≡ (front ++ p ∷ []) ++ slot ∷ back = sym (append_assoc front (p ∷ []) (slot ∷ back)) in
      let apart = distinct-cut front (slot ∷ back) p (subst (IsDistinct eqb) is old.distinct) in
      let at_p = old.home p (subst (IsAmong p) (sym is) (among_at front p (slot ∷ back))) in
      let inside_p = chain_inside links first (front ++ p ∷ (slot ∷ back)) p linked (among_at front p (slot ∷ back)) in
      let link : Link = record { next = next; tag = (link_at links p).tag } in
      let later = set links p link in
      let longl = length-set links p link in
      let same : (q : ℕ) → q ≢ p → link_at later q ≡ link_at links q = λ q ne. get_or-set_other links p q link no_link ne in
      let rest : IsChain links next back = chain_rest links first (front ++ p ∷ []) slot back (subst (IsChain links first) split linked) in
      let on : IsChain later next back = chain_same links later next back longl (λ q there. same q (apart_from p q back (Off-cut p (slot ∷ []) back apart.behind).1 there)) rest in
      let on_p : IsChain later (link_at later p).next back = subst (λ (l : Link). IsChain later l.next back) (sym (get_or-set_same links p link no_link inside_p)) on in
      let joined = chain_splice links later first front p (slot ∷ back) back longl (λ q there. same q (apart_from p q front apart.before there)) on_p linked in
      sound-without links nodes heads seed slot bucket node sound inside home later heads (front ++ p ∷ []) back has longl refl (λ b ne. refl)
      (λ q n hasq away. same q (λ e. (let is_p = same_node nodes p n at_p.0 (subst (λ k. HasNode nodes k n) e hasq) at_p.1 in away (ap (λ (m : Node). bucket_of seed (length heads) m.key) is_p ∙ at_p.2))))
      (is ∙ split)
      (subst (IsChain later first) (sym (append_assoc front (p ∷ []) back)) joined)

  -- all is sound once the slot before is linked past the slot, which has no node
  pub unlinked : (before : ℕ) → ((before ≡ NONE) × (first ≡ slot)) ⊎ IsBefore links first before slot → IsSound (links_with_next links before next) (set nodes slot None) (heads_with_next heads bucket before next) seed
  unlinked before way = elim way [
    | inl begins ↦ subst (λ k. IsSound (links_with_next links k next) (set nodes slot None) (heads_with_next heads bucket k next) seed) (sym begins.0) (head-removed begins.1)
    | inr b ↦ (
        let small = sound.small in let long = sound.long in
        let inside_b = chain_inside links first (b.0 ++ before ∷ (slot ∷ b.1)) before b.2 (among_at b.0 before (slot ∷ b.1)) in
        let some = not_none before (length links) inside_b (omega arith) in
        subst (λ t. IsSound (cond t links (set links before (record { next = next; tag = (link_at links before).tag }))) (set nodes slot None) (cond t (set heads bucket next) heads) seed) (sym some) (behind-removed before b))
  ]

pub length_with_next : (heads : List ℕ) (bucket before next : ℕ) → length (heads_with_next heads bucket before next) ≡ length heads
length_with_next heads bucket before next = by_test (eqb before NONE)
  where
    by_test : (b : Bool) → length (cond b (set heads bucket next) heads) ≡ length heads
    by_test true = length-set heads bucket next
    by_test false = refl
