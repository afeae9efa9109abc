-- All chains, where a slot joins one at its head, or leaves one.
use Rattle.std.proofs.Common.{◌≡◌, ◌≢◌, inl, inr, ℕ, ◌^◌, ◌<◌, ◌≤◌, eqb, List, [], ◌∷◌, ◌++◌, length, get_or, set, replicate, Option, Some, None, sym, ap, subst, ◌∙◌, arith, length-set}
use Rattle.std.proofs.lemmas.Bool.{cases_lt}
use Rattle.std.proofs.lemmas.List.{get_or-replicate, get_or-set_same, get_or-set_other, length-replicate, get_or_past}
use Rattle.std.proofs.Permutation.{which}
use Rattle.std.specs.List.{IsDistinct}
use Rattle.entry_pool.proofs.DistinctSlots.{Off-append, distinct-cut, distinct-none}
use Rattle.key_index.specs.Chains.{bucket_of, IsAmong, HasNode, IsChain, Chain, IsSound, link_at, no_link}
use Rattle.key_index.specs.declared.Node.{Node}
use Rattle.key_index.specs.declared.Link.{Link}
use Rattle.entry_pool.specs.declared.slot_handle.TheConstants.{NONE}
use Rattle.key_index.proofs.AmongLemmas.{off_from_not_among, among_rest, among_all, apart_from, distinct-cons}
use Rattle.key_index.proofs.NodeLemmas.{kept_node, same_node}
use Rattle.key_index.proofs.ChainLemmas.{chain_same}

module _ (links : List Link) (nodes : List (Option Node)) (heads : List ℕ) (seed slot bucket : ℕ) (node : Node) (sound : IsSound links nodes heads seed)
    (inside : bucket < length heads) (home : bucket_of seed (length heads) node.key ≡ bucket) where
  -- a slot leaves, and its chain is made anew
  pub sound-without : (later : List Link) (heads' front back : List ℕ) → HasNode nodes slot node → length later ≡ length links → length heads' ≡ length heads
      → ((b : ℕ) → b ≢ bucket → get_or heads' b NONE ≡ get_or heads b NONE)
      → ((q : ℕ) (n : Node) → HasNode nodes q n → bucket_of seed (length heads) n.key ≢ bucket → link_at later q ≡ link_at links q)
      → (sound.chains bucket inside).slots ≡ front ++ slot ∷ back
      → IsChain later (get_or heads' bucket NONE) (front ++ back)
      → IsSound later (set nodes slot None) heads' seed
  sound-without later heads' front back has longl longh heads_other links_other is linked = record {
    small = let s = sound.small in omega (arith, length-set nodes slot None);
    some = let s = sound.some in omega arith;
    long = longl ∙ sound.long ∙ sym (length-set nodes slot None);
    chains = λ b lt. subst (λ n. Chain later (set nodes slot None) seed n b (get_or heads' b NONE)) (sym longh) (chain b (subst (λ n. b < n) longh lt));
    single = λ i j m n p q same. sound.single i j m n (kept_node nodes slot i m p).1 (kept_node nodes slot j n q).1 same;
  }
    where
      still : (q : ℕ) (n : Node) → q ≢ slot → HasNode nodes q n → HasNode (set nodes slot None) q n
      still q n other there = get_or-set_other nodes slot q None None other ∙ there

      chain : (b : ℕ) → b < length heads → Chain later (set nodes slot None) seed (length heads) b (get_or heads' b NONE)
      chain b lt = elim (which b bucket) [
        | inl same ↦ (
            let old = sound.chains bucket inside in
            let apart = distinct-cut front back slot (subst (IsDistinct eqb) is old.distinct) in
            subst (λ k. Chain later (set nodes slot None) seed (length heads) k (get_or heads' k NONE)) (sym same) (record {
              slots = front ++ back;
              linked = linked;
              distinct = apart.rest;
              home = λ q there.
                  let at = old.home q (subst (IsAmong q) (sym is) (among_all q slot front back there)) in
                  (at.0, still q at.0 (apart_from slot q (front ++ back) (Off-append slot front back apart.before apart.behind) there) at.1, at.2);
              complete = λ q n hasq at.
                  let was = kept_node nodes slot q n hasq in
                  among_rest q slot front back (subst (IsAmong q) is (old.complete q n was.1 at)) was.0;
            }))
        | inr other ↦ (
            let old = sound.chains b lt in
            record {
              slots = old.slots;
              linked = subst (λ k. IsChain later k old.slots) (sym (heads_other b other)) (chain_same links later (get_or heads b NONE) old.slots longl (λ q there.
                  let at = old.home q there in links_other q at.0 at.1 (λ e. other (sym at.2 ∙ e))) old.linked);
              distinct = old.distinct;
              home = λ q there.
                  let at = old.home q there in
                  (at.0, still q at.0 (λ e. (let is_node = same_node nodes slot at.0 node (subst (λ k. HasNode nodes k at.0) e at.1) has in other (sym at.2 ∙ ap (λ (m : Node). bucket_of seed (length heads) m.key) is_node ∙ home))) at.1, at.2);
              complete = λ q n hasq at. old.complete q n (kept_node nodes slot q n hasq).1 at;
            })
      ]

  -- a slot joins at the head of its chain
  pub sound-with : (link : Link) → slot < length nodes → get_or nodes slot None ≡ None → link.next ≡ get_or heads bucket NONE
      → ((q : ℕ) (n : Node) → HasNode nodes q n → n.key ≡ node.key → ⊥)
      → IsSound (set links slot link) (set nodes slot (Some node)) (set heads bucket slot) seed
  sound-with link below unused next absent = record {
    small = let s = sound.small in omega (arith, length-set nodes slot (Some node));
    some = let s = sound.some in omega (arith, length-set heads bucket slot);
    long = length-set links slot link ∙ sound.long ∙ sym (length-set nodes slot (Some node));
    chains = λ b lt. subst (λ n. Chain links' nodes' seed n b (get_or heads' b NONE)) (sym (length-set heads bucket slot)) (chain b (subst (λ n. b < n) (length-set heads bucket slot) lt));
    single = one;
  }
    where
      links' : List Link
      links' = set links slot link

      nodes' : List (Option Node)
      nodes' = set nodes slot (Some node)

      heads' : List ℕ
      heads' = set heads bucket slot

      here : HasNode nodes' slot node
      here = get_or-set_same nodes slot (Some node) None below

      others : (q : ℕ) → q ≢ slot → get_or nodes' q None ≡ get_or nodes q None
      others q ne = get_or-set_other nodes slot q (Some node) None ne

      used : (b : ℕ) (lt : b < length heads) → IsAmong slot (sound.chains b lt).slots → ⊥
      used b lt there = let n = (sound.chains b lt).home slot there in let some = n.1 in cc

      linked : (b : ℕ) (lt : b < length heads) → IsChain links' (get_or heads b NONE) (sound.chains b lt).slots
      linked b lt = chain_same links links' (get_or heads b NONE) (sound.chains b lt).slots (length-set links slot link)
          (λ q there. get_or-set_other links slot q link no_link (λ e. used b lt (subst (λ k. IsAmong k (sound.chains b lt).slots) e there))) (sound.chains b lt).linked

      chain : (b : ℕ) → b < length heads → Chain links' nodes' seed (length heads) b (get_or heads' b NONE)
      chain b lt = elim (which b bucket) [
        | inl same ↦ (
            let old = sound.chains bucket inside in
            let long = sound.long in
            let within : slot < length links = omega arith in
            let on : get_or heads bucket NONE ≡ (link_at links' slot).next = sym (ap (λ (l : Link). l.next) (get_or-set_same links slot link no_link within) ∙ next) in
            subst (λ k. Chain links' nodes' seed (length heads) k (get_or heads' k NONE)) (sym same) (record {
              slots = slot ∷ old.slots;
              linked = (get_or-set_same heads bucket slot NONE inside, omega (arith, length-set links slot link), subst (λ k. IsChain links' k old.slots) on (linked bucket inside));
              distinct = distinct-cons slot old.slots (off_from_not_among slot old.slots (used bucket inside)) old.distinct;
              home = λ q there. elim (which q slot) [
                | inl e ↦ (node, subst (λ k. HasNode nodes' k node) (sym e) here, home)
                | inr ne ↦ (let at = old.home q (elim there [ inl e ↦ absurd (ne e) | inr later ↦ later ]) in (at.0, others q ne ∙ at.1, at.2))
              ];
              complete = λ q n hasq at. elim (which q slot) [ inl e ↦ inl e | inr ne ↦ inr (old.complete q n (sym (others q ne) ∙ hasq) at) ];
            }))
        | inr other ↦ (
            let old = sound.chains b lt in
            let apart : (q : ℕ) (n : Node) → HasNode nodes' q n → bucket_of seed (length heads) n.key ≡ b → q ≢ slot =
            λ q n hasq at e. (let is = same_node nodes' slot n node (subst (λ k. HasNode nodes' k n) e hasq) here in other (sym at ∙ ap (λ (m : Node). bucket_of seed (length heads) m.key) is ∙ home)) in
            record {
              slots = old.slots;
              linked = subst (λ k. IsChain links' k old.slots) (sym (get_or-set_other heads bucket b slot NONE other)) (linked b lt);
              distinct = old.distinct;
              home = λ q there. (let at = old.home q there in (at.0, others q (λ e. used b lt (subst (λ k. IsAmong k old.slots) e there)) ∙ at.1, at.2));
              complete = λ q n hasq at. old.complete q n (sym (others q (apart q n hasq at)) ∙ hasq) at;
            })
      ]

      one : (i j : ℕ) (m n : Node) → HasNode nodes' i m → HasNode nodes' j n → m.key ≡ n.key → i ≡ j
      one i j m n p q same = elim (which i slot) [
        | inl ei ↦ elim (which j slot) [
          | inl ej ↦ ei ∙ sym ej
          | inr nj ↦ (let is = same_node nodes' slot m node (subst (λ k. HasNode nodes' k m) ei p) here in absurd (absent j n (sym (others j nj) ∙ q) (sym same ∙ ap (λ (k : Node). k.key) is)))
        ]
        | inr ni ↦ elim (which j slot) [
          | inl ej ↦ (let is = same_node nodes' slot n node (subst (λ k. HasNode nodes' k n) ej q) here in absurd (absent i m (sym (others i ni) ∙ p) (same ∙ ap (λ (k : Node). k.key) is)))
          | inr nj ↦ sound.single i j m n (sym (others i ni) ∙ p) (sym (others j nj) ∙ q) same
        ]
      ]

pub sound-new : (n m seed : ℕ) (link : Link) → n ≤ 2 ^ 30 → 0 < m → IsSound (replicate n link) (replicate n None) (replicate m NONE) seed
sound-new n m seed link small some =
    let none : (i : ℕ) → get_or (replicate {A = Option Node} n None) i None ≡ None =
    λ i. elim (cases_lt i n) [ inl lt ↦ get_or-replicate n i None None lt | inr le ↦ get_or_past (replicate n None) i None (omega (arith, length-replicate {A = Option Node} n None)) ] in
    record {
      small = omega (arith, length-replicate {A = Option Node} n None);
      some = omega (arith, length-replicate m NONE);
      long = length-replicate {A = Link} n link ∙ sym (length-replicate {A = Option Node} n None);
      chains = λ b lt. record {
        slots = [];
        linked = get_or-replicate m b NONE NONE (omega (arith, length-replicate m NONE));
        distinct = distinct-none;
        home = λ slot there. absurd there;
        complete = λ slot node has. (let e = none slot in cc);
      };
      single = λ i j p q has. (let e = none i in cc);
    }
