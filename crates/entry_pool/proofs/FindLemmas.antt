-- What a handle finds, read off the places.
use Rattle.std.proofs.Common.{◌≡◌, ◌≢◌, ℕ, ◌≤◌, Bool, true, false, eqb, cond, List, map, get_or, set, Option, Some, None, IsSome, refl, sym, ap, subst, ◌∙◌, arith, true≢false, inl, inr}
use Rattle.std.proofs.lemmas.Bool.Decides.{eqb_tells}
use Rattle.std.proofs.lemmas.Bool.{eqb-true, eq-eqb}
use Rattle.std.proofs.lemmas.List.{length-map, map-set}
use denote.Bor.{Bor}
use Rattle.std.specs.Prelude.{option_copied, is_some}
use Rattle.entry_pool.specs.Contents.{Entry, entry, contents, find, value_of_generation, IsPool}
use Rattle.entry_pool.specs.declared.Live.{Live}
use Rattle.entry_pool.specs.Slots.{shown, IsSound}
use Rattle.entry_pool.proofs.SlotLemmas.{none_some, same_some, shown_get}

module _ {T : Type 0} where
  -- what a handle finds is what its place shows
  pub find_at : (places : List (Option (Live T))) (capacity newest slot generation : ℕ) (held : Option (Live T)) → get_or places slot None ≡ held
      → find (contents capacity newest (map shown places)) (record { slot = slot; generation = generation }) ≡ value_of_generation generation (shown held)
  find_at places capacity newest slot generation held is = ap (value_of_generation generation) (shown_get places slot ∙ ap shown is)

  -- a place in which a handle finds a value has it under the handle's generation
  pub record IsLive (places : List (Option (Live T))) (slot generation : ℕ) : Type 0 where
    pub live : Live T
    pub there : get_or places slot None ≡ Some live
    pub dated : live.generation ≡ generation

  pub found_live : (places : List (Option (Live T))) (capacity newest slot generation : ℕ) → IsSome (find (contents capacity newest (map shown places)) (record { slot = slot; generation = generation })) → IsLive places slot generation
  found_live places capacity newest slot generation some = by_place (get_or places slot None) refl (subst IsSome (find_at places capacity newest slot generation _ refl) some)
    where
      by_place : (held : Option (Live T)) → get_or places slot None ≡ held → IsSome (value_of_generation generation (shown held)) → IsLive places slot generation
      by_place None is some = absurd (true≢false (sym some))
      by_place (Some live) is some = by_test (eqb live.generation generation) refl some
        where
          by_test : (b : Bool) → eqb live.generation generation ≡ b → IsSome (cond b (Some live.value) None) → IsLive places slot generation
          by_test true same some = record { live = live; there = is; dated = eqb-true live.generation generation same }
          by_test false differ some = absurd (true≢false (sym some))

  -- and the other way
  pub find_live : (places : List (Option (Live T))) (capacity newest slot generation : ℕ) (live : Live T) → get_or places slot None ≡ Some live → live.generation ≡ generation
      → find (contents capacity newest (map shown places)) (record { slot = slot; generation = generation }) ≡ Some live.value
  find_live places capacity newest slot generation live there dated =
      find_at places capacity newest slot generation (Some live) there ∙ ap (λ b. cond b (Some live.value) None) (eq-eqb live.generation generation dated)

  -- a value under another generation isn't found
  pub other_generation : (h g : ℕ) (v : T) → h ≢ g → value_of_generation g (Some (entry h v)) ≡ None
  other_generation h g v other = elim (eqb_tells h g) [ inl same ↦ absurd (other same.1) | inr differ ↦ ap (λ b. cond b (Some v) None) differ.0 ]

  pub some_copied : (o : Option (Bor T)) → is_some o ≡ true → IsSome (option_copied o)
  some_copied None some = absurd (true≢false (sym some))
  some_copied (Some x) some = refl

  -- a value, written through a reference to it
  pub rewritten : (places : List (Option (Live T))) (slot generation : ℕ) (live : Live T) (w : T) → live.generation ≡ generation
      → map shown (set places slot (Some (record live { value = w }))) ≡ set (map shown places) slot (Some (entry generation w))
  rewritten places slot generation live w dated = map-set shown places slot (Some (record live { value = w })) ∙ ap (λ g. set (map shown places) slot (Some (entry g w))) dated

  -- a sound pool is as many slots as fit, with no generation above the greatest
  pub is_pool : (places : List (Option (Live T))) (links : List ℕ) (capacity first count newest : ℕ) → IsSound places links capacity first count newest → IsPool (contents capacity newest (map shown places))
  is_pool places links capacity first count newest s = record {
    sized = length-map places shown ∙ s.sized;
    dated = λ slot e there. by_place (get_or places slot None) e slot refl (sym (shown_get places slot) ∙ there);
  }
    where
      by_place : (held : Option (Live T)) (e : Entry T) (slot : ℕ) → get_or places slot None ≡ held → shown held ≡ Some e → e.generation ≤ newest
      by_place None e slot is there = absurd (none_some there)
      by_place (Some live) e slot is there =
          let b = s.dated slot live is in let same : live.generation ≡ e.generation = ap (λ (x : Entry T). x.generation) (same_some there) in
          omega (arith, b, same)
