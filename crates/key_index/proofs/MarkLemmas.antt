-- The marks of the buckets: a search that they end, and what a slot that joins or leaves does to them.
use Rattle.std.proofs.Common.{◌≡◌, ◌≢◌, inl, inr, ℕ, ◌^◌, ◌<◌, Bool, true, false, eqb, cond, bit_or, List, length, get_or, set, replicate, Option, None, refl, sym, ap, subst, ◌∙◌, arith, length-set}
use Rattle.std.specs.Int.{bit_at}
use Rattle.std.proofs.lemmas.Bool.{eqb-true, cases_lt}
use Rattle.std.proofs.lemmas.List.{get_or-set_same, get_or-set_other, get_or-replicate, length-replicate, get_or_past}
use Rattle.std.proofs.lemmas.Nat.Bits.{bit_at_or, bit_at-lt, bit_at-pow_same}
use Rattle.std.proofs.Permutation.{which}
use Rattle.key_index.specs.Chains.{bucket_of, mark_of, HasNode, HoldsKey, LeadsTo, IsSound, IsMarked, marks_behind}
use Rattle.key_index.specs.declared.Node.{Node}
use Rattle.key_index.specs.declared.Link.{Link}
use Rattle.entry_pool.specs.declared.slot_handle.TheConstants.{NONE}
use Rattle.key_index.proofs.ChainLemmas.{bucket-inside}
use Rattle.key_index.proofs.SearchLemmas.{leads_end}

pub marked_or : (marks mark : ℕ) → bit_at (bit_or marks (2 ^ mark)) mark ≡ 1
marked_or marks mark = omega (arith, bit_at_or marks (2 ^ mark) mark, bit_at-pow_same mark, bit_at-lt marks mark)

pub kept_or : (marks bit other : ℕ) → bit_at marks other ≡ 1 → bit_at (bit_or marks bit) other ≡ 1
kept_or marks bit other is = omega (arith, is, bit_at_or marks bit other, bit_at-lt bit other)

-- the chain of its bucket leads to a key
pub leads_all : (links : List Link) (nodes : List (Option Node)) (heads : List ℕ) (seed : ℕ) (key : List ℕ) → IsSound links nodes heads seed → LeadsTo links nodes (get_or heads (bucket_of seed (length heads) key) NONE) key
leads_all links nodes heads seed key sound =
    let chain = sound.chains (bucket_of seed (length heads) key) (bucket-inside seed (length heads) key sound.some) in
    record {
      slots = chain.slots;
      linked = chain.linked;
      distinct = chain.distinct;
      complete = λ slot holds. chain.complete slot holds.0 holds.1 (ap (bucket_of seed (length heads)) holds.2);
    }

-- the mark of the key is among those of its bucket
abbrev pub IsMarkedKey : List ℕ → ℕ → ℕ → List ℕ → Type 0
IsMarkedKey marks seed buckets key = bit_at (get_or marks (bucket_of seed buckets key) 0) (mark_of seed key) ≡ 1

-- a key whose mark is missing is in no slot
pub absent_unmarked : (nodes : List (Option Node)) (heads marks : List ℕ) (seed : ℕ) (key : List ℕ) → IsMarked nodes heads marks seed → (IsMarkedKey marks seed (length heads) key → ⊥)
    → (slot : ℕ) → HoldsKey nodes slot key → ⊥
absent_unmarked nodes heads marks seed key m missing slot holds = missing (subst (IsMarkedKey marks seed (length heads)) holds.2 (m.marked slot holds.0 holds.1))

module _ (nodes later : List (Option Node)) (heads heads' marks : List ℕ) (seed bucket : ℕ) (m : IsMarked nodes heads marks seed) (longh : length heads' ≡ length heads) (inside : bucket < length heads) where
  inside_marks : bucket < length marks
  inside_marks = omega (arith, m.long)

  kept_mark : (byte b mark : ℕ) → ((other : ℕ) → bit_at (get_or marks bucket 0) other ≡ 1 → bit_at byte other ≡ 1) → bit_at (get_or marks b 0) mark ≡ 1 → bit_at (get_or (set marks bucket byte) b 0) mark ≡ 1
  kept_mark byte b mark kept is = elim (which b bucket) [
    | inl same ↦ (
        let before : bit_at (get_or marks bucket 0) mark ≡ 1 = subst (λ k. bit_at (get_or marks k 0) mark ≡ 1) same is in
        subst (λ k. bit_at (get_or (set marks bucket byte) k 0) mark ≡ 1) (sym same) (ap (λ v. bit_at v mark) (get_or-set_same marks bucket byte 0 inside_marks) ∙ kept mark before))
    | inr other ↦ ap (λ v. bit_at v mark) (get_or-set_other marks bucket b byte 0 other) ∙ is
  ]

  -- a slot joins, and its key's mark
  pub marked-with : (slot byte : ℕ) (node : Node) → HasNode later slot node → ((q : ℕ) → q ≢ slot → get_or later q None ≡ get_or nodes q None) → bucket_of seed (length heads) node.key ≡ bucket
      → bit_at byte (mark_of seed node.key) ≡ 1 → ((other : ℕ) → bit_at (get_or marks bucket 0) other ≡ 1 → bit_at byte other ≡ 1) → IsMarked later heads' (set marks bucket byte) seed
  marked-with slot byte node has others home here kept = record {
    long = length-set marks bucket byte ∙ m.long ∙ sym longh;
    marked = λ q n hasq. subst (λ k. IsMarkedKey (set marks bucket byte) seed k n.key) (sym longh) (one q n hasq);
  }
    where
      first : IsMarkedKey (set marks bucket byte) seed (length heads) node.key
      first = subst (λ k. bit_at (get_or (set marks bucket byte) k 0) (mark_of seed node.key) ≡ 1) (sym home) (ap (λ v. bit_at v (mark_of seed node.key)) (get_or-set_same marks bucket byte 0 inside_marks) ∙ here)

      one : (q : ℕ) (n : Node) → HasNode later q n → IsMarkedKey (set marks bucket byte) seed (length heads) n.key
      one q n hasq = elim (which q slot) [
        | inl e ↦ (
            let there : HasNode later slot n = subst (λ k. HasNode later k n) e hasq in
            let is : node ≡ n = cc in
            subst (λ (k : Node). IsMarkedKey (set marks bucket byte) seed (length heads) k.key) is first)
        | inr ne ↦ kept_mark byte (bucket_of seed (length heads) n.key) (mark_of seed n.key) kept (m.marked q n (sym (others q ne) ∙ hasq))
      ]

  -- a slot leaves, and the marks of its bucket where no other is in its chain
  pub marked-without : (links : List Link) (first : ℕ) → IsSound links later heads' seed → ((q : ℕ) (n : Node) → HasNode later q n → HasNode nodes q n)
      → first ≡ get_or heads' bucket NONE → IsMarked later heads' (marks_behind marks bucket first) seed
  marked-without links first sound kept head = by_test (eqb first NONE) refl
    where
      was : (q : ℕ) (n : Node) → HasNode later q n → IsMarkedKey marks seed (length heads) n.key
      was q n hasq = m.marked q n (kept q n hasq)

      ended : first ≡ NONE → (q : ℕ) (n : Node) → HasNode later q n → bucket_of seed (length heads) n.key ≡ bucket → ⊥
      ended none q n hasq at =
          let home : bucket_of seed (length heads') n.key ≡ bucket = ap (λ k. bucket_of seed k n.key) longh ∙ at in
          let start : get_or heads' (bucket_of seed (length heads') n.key) NONE ≡ NONE = ap (λ b. get_or heads' b NONE) home ∙ sym head ∙ none in
          let small = sound.small in let long = sound.long in
          leads_end links later n.key (omega arith) (subst (λ k. LeadsTo links later k n.key) start (leads_all links later heads' seed n.key sound)) q (n, hasq, refl)

      by_test : (b : Bool) → eqb first NONE ≡ b → IsMarked later heads' (cond b (set marks bucket 0) marks) seed
      by_test true none = record {
        long = length-set marks bucket 0 ∙ m.long ∙ sym longh;
        marked = λ q n hasq. subst (λ k. IsMarkedKey (set marks bucket 0) seed k n.key) (sym longh) (elim (which (bucket_of seed (length heads) n.key) bucket) [
          | inl at ↦ absurd (ended (eqb-true first NONE none) q n hasq at)
          | inr other ↦ ap (λ v. bit_at v (mark_of seed n.key)) (get_or-set_other marks bucket (bucket_of seed (length heads) n.key) 0 0 other) ∙ was q n hasq
        ]);
      }
      by_test false some = record {
        long = m.long ∙ sym longh;
        marked = λ q n hasq. subst (λ k. IsMarkedKey marks seed k n.key) (sym longh) (was q n hasq);
      }

pub marked-new : (n k seed : ℕ) → IsMarked (replicate n None) (replicate k NONE) (replicate k 0) seed
marked-new n k seed = record {
  long = length-replicate {A = ℕ} k 0 ∙ sym (length-replicate {A = ℕ} k NONE);
  marked = λ slot node has. (
      let none : get_or (replicate {A = Option Node} n None) slot None ≡ None =
      elim (cases_lt slot n) [ inl lt ↦ get_or-replicate n slot None None lt | inr le ↦ get_or_past (replicate n None) slot None (omega (arith, length-replicate {A = Option Node} n None)) ] in
      cc);
}
