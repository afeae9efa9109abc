-- The chain of one bucket.
use Rattle.std.proofs.Common.{◌≡◌, inl, inr, ℕ, zero, suc, ◌-◌, ◌^◌, ◌<◌, ◌≤◌, eqb, cond, bit_and, List, [], ◌∷◌, ◌++◌, length, refl, sym, ap, subst, ◌∙◌, arith}
use Rattle.std.proofs.lemmas.Bool.{eqb-false, eq-eqb}
use Rattle.std.proofs.lemmas.Map.Steps.{length-le_from_distinct_below}
use Rattle.std.proofs.lemmas.Nat.{and_le_r}
use Rattle.std.specs.List.{IsDistinct}
use Rattle.entry_pool.proofs.DistinctSlots.{Off-cut, distinct-head}
use Rattle.key_index.specs.Chains.{hash_of, bucket_of, IsAmong, IsChain, link_at, steps_left}
use Rattle.key_index.specs.declared.Link.{Link}
use Rattle.entry_pool.specs.declared.slot_handle.TheConstants.{NONE}
use Rattle.key_index.proofs.AmongLemmas.{among_any}
use Rattle.key_index.proofs.NodeLemmas.{not_none}

-- a bucket is one of those that there are
pub bucket-inside : (seed buckets : ℕ) (key : List ℕ) → 0 < buckets → bucket_of seed buckets key < buckets
bucket-inside seed buckets key some = omega (arith, and_le_r (hash_of seed key) (buckets - 1))

pub bucket_is : (seed hash bucket buckets : ℕ) (heads key : List ℕ) → hash ≡ hash_of seed key → buckets ≡ length heads → bucket ≡ bit_and hash (buckets - 1) → bucket_of seed (length heads) key ≡ bucket
bucket_is seed hash bucket buckets heads key hashed all is = cc

-- a slot of a chain is one of those that there are
pub chain_inside : (links : List Link) (at : ℕ) (slots : List ℕ) (q : ℕ) → IsChain links at slots → IsAmong q slots → q < length links
chain_inside links at [] q p there = absurd there
chain_inside links at (s ∷ slots) q p there = elim there [
  | inl same ↦ subst (λ k. k < length links) (sym same) p.1
  | inr later ↦ chain_inside links (link_at links s).next slots q p.2 later
]

pub chain_fits : (links : List Link) (at : ℕ) (slots : List ℕ) → IsChain links at slots → IsDistinct eqb slots → length slots ≤ length links
chain_fits links at slots p distinct = length-le_from_distinct_below slots (length links) distinct (λ q there. chain_inside links at slots q p (among_any q slots there))

pub steps_are : (links : List Link) (most at : ℕ) (slots : List ℕ) → length links ≤ 2 ^ 30 → IsChain links at slots → length slots ≤ most → steps_left links most at ≡ length slots
steps_are links zero at [] small p fits = refl
steps_are links zero at (s ∷ slots) small p fits = absurd (omega arith)
steps_are links (suc most) at [] small p fits = ap (λ b. cond b 0 (suc (steps_left links most (link_at links at).next))) (eq-eqb at NONE p)
steps_are links (suc most) at (s ∷ slots) small p fits =
    subst (λ k. steps_left links (suc most) k ≡ suc (length slots)) (sym p.0)
    (ap (λ b. cond b 0 (suc (steps_left links most (link_at links s).next))) (not_none s (length links) p.1 small)
    ∙ ap suc (steps_are links most (link_at links s).next slots small p.2 (omega arith)))

-- from one slot on there is one chain
pub chain_unique : (links : List Link) (at : ℕ) (xs ys : List ℕ) → length links ≤ 2 ^ 30 → IsChain links at xs → IsChain links at ys → xs ≡ ys
chain_unique links at [] [] small p q = refl
chain_unique links at [] (y ∷ ys) small p q = let none : y ≡ NONE = sym q.0 ∙ p in absurd (omega (arith, q.1))
chain_unique links at (x ∷ xs) [] small p q = let none : x ≡ NONE = sym p.0 ∙ q in absurd (omega (arith, p.1))
chain_unique links at (x ∷ xs) (y ∷ ys) small p q =
    let same : x ≡ y = sym p.0 ∙ q.0 in
    let rest = chain_unique links (link_at links x).next xs ys small p.2 (subst (λ k. IsChain links (link_at links k).next ys) (sym same) q.2) in
    cc

-- links that agree at the slots of a chain have the chain
pub chain_same : (links later : List Link) (at : ℕ) (slots : List ℕ) → length later ≡ length links → ((q : ℕ) → IsAmong q slots → link_at later q ≡ link_at links q) → IsChain links at slots → IsChain later at slots
chain_same links later at [] long same p = p
chain_same links later at (s ∷ slots) long same p = (
  p.0,
  omega (arith, p.1),
  subst (λ (l : Link). IsChain later l.next slots) (sym (same s (inl refl))) (chain_same links later (link_at links s).next slots long (λ q there. same q (inr there)) p.2),
)

-- the front of a chain, with another rest behind its last slot
pub chain_splice : (links later : List Link) (at : ℕ) (front : List ℕ) (slot : ℕ) (rest new : List ℕ) → length later ≡ length links → ((q : ℕ) → IsAmong q front → link_at later q ≡ link_at links q)
    → IsChain later (link_at later slot).next new → IsChain links at (front ++ slot ∷ rest) → IsChain later at (front ++ slot ∷ new)
chain_splice links later at [] slot rest new long same on p = (p.0, omega (arith, p.1), on)
chain_splice links later at (x ∷ front) slot rest new long same on p = (
  p.0,
  omega (arith, p.1),
  subst (λ (l : Link). IsChain later l.next (front ++ slot ∷ new)) (sym (same x (inl refl))) (chain_splice links later (link_at links x).next front slot rest new long (λ q there. same q (inr there)) on p.2),
)

-- the rest of a chain behind a slot
pub chain_rest : (links : List Link) (at : ℕ) (front : List ℕ) (slot : ℕ) (rest : List ℕ) → IsChain links at (front ++ slot ∷ rest) → IsChain links (link_at links slot).next rest
chain_rest links at [] slot rest p = p.2
chain_rest links at (x ∷ front) slot rest p = chain_rest links (link_at links x).next front slot rest p.2

pub front_empty : (links : List Link) (front back : List ℕ) (at slot : ℕ) → IsChain links at (front ++ slot ∷ back) → at ≡ slot → IsDistinct eqb (front ++ slot ∷ back) → front ≡ []
front_empty links [] back at slot p same distinct = refl
front_empty links (x ∷ front) back at slot p same distinct =
    let off = (Off-cut x front (slot ∷ back) (distinct-head x (front ++ slot ∷ back) distinct)).1.0 in
    absurd (eqb-false x slot off (sym p.0 ∙ same))
