-- What a call leaves of what handles find.
use Rattle.std.proofs.Common.{◌≡◌, ◌≢◌, ◌⊎◌, ℕ, zero, suc, ◌≤◌, Bool, true, false, eqb, cond, List, [], ◌∷◌, set, get_or, Option, Some, None, IsSome, refl, sym, ap, subst, ◌∙◌, arith, inl, inr, true≢false}
use Rattle.std.proofs.lemmas.Bool.{eqb-true, eq-eqb}
use Rattle.std.proofs.lemmas.List.{get_or-set_same, get_or-set_other}
use Rattle.std.proofs.Permutation.{which}
use Rattle.entry_pool.specs.declared.slot_handle.Handle.{Handle}
use Rattle.entry_pool.specs.Contents.{Entry, entry, Contents, entry_at, find, value_of_generation, IsGone}
use Rattle.entry_pool.specs.Calls.{Call, IsCall, handle_of, after}
use Rattle.entry_pool.specs.Calls.Call.{inserted, written, removed}
use Rattle.entry_pool.specs.Laws.{GoneForEver, InsertedIsFound, OthersStay}
use Rattle.entry_pool.proofs.FindLemmas.{other_generation}

one_handle : (h k : Handle) → h.slot ≡ k.slot → h.generation ≡ k.generation → h ≡ k
one_handle h k slot generation = λ i. record { slot = slot i; generation = generation i }

same_or_other : (h k : Handle) → (h ≡ k) ⊎ (h ≢ k)
same_or_other h k = elim (which h.slot k.slot) [
  | inl slot ↦ elim (which h.generation k.generation) [
    | inl generation ↦ inl (one_handle h k slot generation)
    | inr differ ↦ inr (λ same. differ (ap (λ (x : Handle). x.generation) same))
  ]
  | inr differ ↦ inr (λ same. differ (ap (λ (x : Handle). x.slot) same))
]

module _ {T : Type 0} where
  set_or_past : (xs : List (Option (Entry T))) (i : ℕ) (o : Option (Entry T)) → (get_or (set xs i o) i None ≡ o) ⊎ (get_or (set xs i o) i None ≡ get_or xs i None)
  set_or_past [] i o = inr refl
  set_or_past (x ∷ xs) zero o = inl refl
  set_or_past (x ∷ xs) (suc i) o = set_or_past xs i o

  one_generation : (o : Option (Entry T)) (g k : ℕ) → IsSome (value_of_generation g o) → g ≢ k → value_of_generation k o ≡ None
  one_generation None g k some differ = refl
  one_generation (Some e) g k some differ = by_test (eqb e.generation g) refl some
    where
      by_test : (b : Bool) → eqb e.generation g ≡ b → IsSome (cond b (Some e.value) None) → value_of_generation k (Some e) ≡ None
      by_test true is some = other_generation e.generation k e.value (λ same. differ (sym (eqb-true e.generation g is) ∙ same))
      by_test false is some = absurd (true≢false (sym some))

  -- a slot is written: another handle finds what it found, if it finds nothing in that slot before and after
  kept : (pool : Contents T) (slot : ℕ) (o : Option (Entry T)) (other : Handle) → (slot ≡ other.slot → (value_of_generation other.generation o ≡ None) × (find pool other ≡ None))
      → value_of_generation other.generation (get_or (set pool.slots slot o) other.slot None) ≡ find pool other
  kept pool slot o other nothing = elim (which slot other.slot) [
    | inl same ↦ elim (set_or_past pool.slots slot o) [
      | inl there ↦ ap (λ i. value_of_generation other.generation (get_or (set pool.slots slot o) i None)) (sym same) ∙ ap (value_of_generation other.generation) there ∙ (nothing same).0 ∙ sym (nothing same).1
      | inr past ↦ ap (λ i. value_of_generation other.generation (get_or (set pool.slots slot o) i None)) (sym same) ∙ ap (value_of_generation other.generation) past ∙ ap (λ i. value_of_generation other.generation (get_or pool.slots i None)) same
    ]
    | inr differ ↦ ap (value_of_generation other.generation) (get_or-set_other pool.slots slot other.slot o None (λ same. differ (sym same)))
  ]

  -- a handle that differs in a slot that has a value finds nothing there
  none_beside : (pool : Contents T) (handle other : Handle) → IsSome (find pool handle) → handle ≢ other → handle.slot ≡ other.slot → find pool other ≡ None
  none_beside pool handle other some differ same =
      ap (λ i. value_of_generation other.generation (get_or pool.slots i None)) (sym same) ∙ one_generation (entry_at pool handle.slot) handle.generation other.generation some (λ generation. differ (one_handle handle other same generation))

  pub stays : OthersStay T
  stays pool (inserted handle value) other is differ =
      kept pool handle.slot (Some (entry handle.generation value)) other (λ same. (
        other_generation handle.generation other.generation value (λ generation. differ (one_handle handle other same generation)),
        ap (λ i. value_of_generation other.generation (get_or pool.slots i None)) (sym same) ∙ ap (value_of_generation other.generation) is.free,
      ))
  stays pool (written handle value) other is differ =
      kept pool handle.slot (Some (entry handle.generation value)) other (λ same.
      (other_generation handle.generation other.generation value (λ generation. differ (one_handle handle other same generation)), none_beside pool handle other is differ same))
  stays pool (removed handle) other is differ = kept pool handle.slot None other (λ same. (refl, none_beside pool handle other is differ same))

  no_value : (pool : Contents T) (handle : Handle) → find pool handle ≡ None → IsSome (find pool handle) → ⊥
  no_value pool handle none some = true≢false (sym (subst IsSome none some))

  -- what is gone before a call is gone after it
  never_again : (pool : Contents T) (call : Call T) (handle : Handle) → IsGone pool handle → IsCall pool call → handle_of call ≢ handle
  never_again pool (inserted given value) handle gone is same = omega (arith, gone.used, is.newer, ap (λ (h : Handle). h.generation) same)
  never_again pool (written live value) handle gone is same = no_value pool handle gone.nothing (subst (λ h. IsSome (find pool h)) same is)
  never_again pool (removed live) handle gone is same = no_value pool handle gone.nothing (subst (λ h. IsSome (find pool h)) same is)

  newest_grows : (pool : Contents T) (call : Call T) → IsCall pool call → pool.newest ≤ (after pool call).newest
  newest_grows pool (inserted given value) is = omega (arith, is.newer)
  newest_grows pool (written live value) is = omega arith
  newest_grows pool (removed live) is = omega arith

  gone_after : (pool : Contents T) (call : Call T) (handle : Handle) → IsGone pool handle → IsCall pool call → IsGone (after pool call) handle
  gone_after pool call handle gone is = record {
    used = omega (arith, gone.used, newest_grows pool call is);
    nothing = stays pool call handle is (never_again pool call handle gone is) ∙ gone.nothing;
  }

  pub gone : GoneForEver T
  gone pool [] handle before calls = before
  gone pool (call ∷ rest) handle before calls = gone (after pool call) rest handle (gone_after pool call handle before calls.0) calls.1

  pub inserted_found : InsertedIsFound T
  inserted_found pool handle value sound given =
      ap (value_of_generation handle.generation) (get_or-set_same pool.slots handle.slot (Some (entry handle.generation value)) None (omega (arith, given.within, sound.sized)))
      ∙ ap (λ b. cond b (Some value) None) (eq-eqb handle.generation handle.generation refl)
