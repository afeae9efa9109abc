-- The tags beside the links, where a slot joins or leaves.
use Rattle.std.proofs.Common.{◌≡◌, ◌≢◌, inl, inr, ℕ, ◌<◌, Bool, true, false, eqb, cond, List, length, get_or, set, replicate, Option, Some, None, refl, sym, ap, subst, ◌∙◌, arith}
use Rattle.std.proofs.lemmas.Bool.{eqb-false, cases_lt}
use Rattle.std.proofs.lemmas.List.{get_or-set_same, get_or-set_other, get_or-replicate, length-replicate, get_or_past}
use Rattle.std.proofs.Permutation.{which}
use Rattle.key_index.specs.Chains.{tag_of, HasNode, HoldsKey, IsTagged, link_at, no_link, links_with_next}
use Rattle.key_index.specs.declared.Node.{Node}
use Rattle.key_index.specs.declared.Link.{Link}
use Rattle.entry_pool.specs.declared.slot_handle.TheConstants.{NONE}
use Rattle.key_index.proofs.NodeLemmas.{kept_node, same_node}

module _ (links : List Link) (nodes : List (Option Node)) (seed : ℕ) (t : IsTagged links nodes seed) where
  -- a slot that has a key has its tag
  pub tag_held : (slot : ℕ) (key : List ℕ) → HoldsKey nodes slot key → (link_at links slot).tag ≡ tag_of seed key
  tag_held slot key holds = t.tagged slot holds.0 holds.1 ∙ ap (tag_of seed) holds.2

  -- a slot joins, with its key's tag
  pub tagged-with : (slot : ℕ) (link : Link) (node : Node) → slot < length links → slot < length nodes → link.tag ≡ tag_of seed node.key → IsTagged (set links slot link) (set nodes slot (Some node)) seed
  tagged-with slot link node within below is = record {
    tagged = λ q n has. elim (which q slot) [
      | inl e ↦ (
          let same = same_node (set nodes slot (Some node)) slot n node (subst (λ k. HasNode (set nodes slot (Some node)) k n) e has) (get_or-set_same nodes slot (Some node) None below) in
          ap (λ k. (link_at (set links slot link) k).tag) e ∙ ap (λ (l : Link). l.tag) (get_or-set_same links slot link no_link within) ∙ is ∙ sym (ap (λ (m : Node). tag_of seed m.key) same))
      | inr ne ↦ ap (λ (l : Link). l.tag) (get_or-set_other links slot q link no_link ne) ∙ t.tagged q n (sym (get_or-set_other nodes slot q (Some node) None ne) ∙ has)
    ];
  }

  -- a slot leaves, and another names another next one
  pub tagged-without : (slot before next : ℕ) → (before ≢ NONE → before < length links) → IsTagged (links_with_next links before next) (set nodes slot None) seed
  tagged-without slot before next within = record {
    tagged = λ q n has. kept (eqb before NONE) refl q ∙ t.tagged q n (kept_node nodes slot q n has).1;
  }
    where
      kept : (b : Bool) → eqb before NONE ≡ b → (q : ℕ) → (link_at (cond b links (set links before (record { next = next; tag = (link_at links before).tag }))) q).tag ≡ (link_at links q).tag
      kept true none q = refl
      kept false some q =
          let link : Link = record { next = next; tag = (link_at links before).tag } in
          elim (which q before) [
            | inl e ↦ ap (λ k. (link_at (set links before link) k).tag) e ∙ ap (λ (l : Link). l.tag) (get_or-set_same links before link no_link (within (eqb-false before NONE some))) ∙ sym (ap (λ k. (link_at links k).tag) e)
            | inr ne ↦ ap (λ (l : Link). l.tag) (get_or-set_other links before q link no_link ne)
          ]

pub tagged-new : (n seed : ℕ) (links : List Link) → IsTagged links (replicate n None) seed
tagged-new n seed links = record {
  tagged = λ slot node has. (
      let none : get_or (replicate {A = Option Node} n None) slot None ≡ None =
      elim (cases_lt slot n) [ inl lt ↦ get_or-replicate n slot None None lt | inr le ↦ get_or_past (replicate n None) slot None (omega (arith, length-replicate {A = Option Node} n None)) ] in
      cc);
}
