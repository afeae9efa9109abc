-- On slots that hold references, and what is counted for them.
use Rattle.std.proofs.Common.{◌≡◌, ◌∙◌, ℕ, zero, suc, ◌/◌, ◌%◌, ◌≤◌, Bool, true, false, eqb, cond, List, [], ◌∷◌, length, slice_get, Some, None, is_some, refl, sym, ap, subst, arith}
use Rattle.stored_data.specs.declared.act.Act.{Act}
use Rattle.stored_data.specs.declared.act.Act.TheVariants as acts
use Rattle.rule_model.specs.declared.actions.Slot.{Slot}
use Rattle.rule_model.specs.declared.actions.Slot.TheVariants.{Sc0, Sc1, Sc2}
use Rattle.admit_core.specs.Connection.{sessions, bytes_of}
use Rattle.admit_core.specs.Held.{holding}
use Rattle.admit_core.specs.declared.held.Held.{Held}

-- at most three hold one
pub holding-few : {R : Type 0} (held : Held R) → length (holding held) ≤ 3
holding-few held = few (is_some held.sc0) (is_some held.sc1) (is_some held.sc2)
  where
    few : (a b c : Bool) → length (cond a (Sc0 ∷ cond b (Sc1 ∷ cond c (Sc2 ∷ []) []) (cond c (Sc2 ∷ []) [])) (cond b (Sc1 ∷ cond c (Sc2 ∷ []) []) (cond c (Sc2 ∷ []) []))) ≤ 3
    few true true true = omega arith
    few true true false = omega arith
    few true false true = omega arith
    few true false false = omega arith
    few false true true = omega arith
    few false true false = omega arith
    few false false true = omega arith
    few false false false = omega arith

-- ---- what is counted

pub sessions_at : (slots : List Slot) (n : ℕ) (slot : Slot) → slice_get slots n ≡ Some slot → slice_get (sessions slots) n ≡ Some (slot, acts.Session)
sessions_at [] n slot h = cc
sessions_at (s ∷ more) zero slot h = let e : s ≡ slot = cc in ap (λ x. Some (x, acts.Session)) e
sessions_at (s ∷ more) (suc n) slot h = sessions_at more n slot h

pub sessions_none : (slots : List Slot) (n : ℕ) → slice_get slots n ≡ None → slice_get (sessions slots) n ≡ None
sessions_none [] n h = refl
sessions_none (s ∷ more) zero h = cc
sessions_none (s ∷ more) (suc n) h = sessions_none more n h

-- of two acts for each slot
abbrev pub byte_act : ℕ → ℕ → ℕ → Act
byte_act bytes_in bytes_out n = cond (eqb (n % 2) 0) (acts.BytesIn bytes_in) (acts.BytesOut bytes_out)

pub bytes_at : (bytes_in bytes_out : ℕ) (slots : List Slot) (n : ℕ) (slot : Slot) → slice_get slots (n / 2) ≡ Some slot → slice_get (bytes_of bytes_in bytes_out slots) n ≡ Some (slot, byte_act bytes_in bytes_out n)
bytes_at i o [] n slot h = cc
bytes_at i o (s ∷ more) zero slot h = let e : s ≡ slot = cc in ap (λ x. Some (x, acts.BytesIn i)) e
bytes_at i o (s ∷ more) (suc zero) slot h = let e : s ≡ slot = cc in ap (λ x. Some (x, acts.BytesOut o)) e
bytes_at i o (s ∷ more) (suc (suc n)) slot h =
    let half : suc (suc n) / 2 ≡ suc (n / 2) = omega arith in
    let odd : suc (suc n) % 2 ≡ n % 2 = omega arith in
    let here : slice_get more (n / 2) ≡ Some slot = subst (λ k. slice_get (s ∷ more) k ≡ Some slot) half h in
    bytes_at i o more n slot here ∙ ap (λ k. Some (slot, cond (eqb k 0) (acts.BytesIn i) (acts.BytesOut o))) (sym odd)

pub bytes_none : (bytes_in bytes_out : ℕ) (slots : List Slot) (n : ℕ) → slice_get slots (n / 2) ≡ None → slice_get (bytes_of bytes_in bytes_out slots) n ≡ None
bytes_none i o [] n h = refl
bytes_none i o (s ∷ more) zero h = cc
bytes_none i o (s ∷ more) (suc zero) h = cc
bytes_none i o (s ∷ more) (suc (suc n)) h =
    let half : suc (suc n) / 2 ≡ suc (n / 2) = omega arith in
    bytes_none i o more n (subst (λ k. slice_get (s ∷ more) k ≡ None) half h)
