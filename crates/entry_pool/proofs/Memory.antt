-- The places of a block in memory: with nothing, and one taken out and put back. Assumes `Logic`.
use Rattle.std.proofs.Common.{◌≡◌, ℕ, zero, suc, ◌+◌, ◌*◌, ◌^◌, ◌<◌, List, [], ◌∷◌, length, set, refl, sym, ap, ◌∙◌, arith}
use Rattle.std.proofs.Common.{get_or, replicate, Option, None}
use seplogic.Ra.Ura.{Ura}
use base.Fraction.{full_share}
use base.Fml.{Fml, froom}
use base.Logic.{guard_i, ent, sep, via, id⊢}
use mir.Syntax.{Ty, ty_array, Width, int_big}
use mir.Raw.{raw as raw_ty}
use mir.Val.{Val, has_ty, WT, Fits, vint}
use prog.Wp.{Env}
use types.Run.{Opd}
use lib.Dec.{T}
use denote.Laws.{Typed}
use prog.Memory.{size, align, capped}
use prog.Capped.{capped_is, capped_small}
use Rattle.std.proofs.Math.Nat.{mul-le-mul_right, mul-le-mul_left, mul-div-le, div-le_self}
use Rattle.std.proofs.lemmas.Bool.{leb-true}
use Rattle.std.proofs.Math.Dec.{leb}
use Rattle.std.proofs.Common.{true}
use Rattle.std.proofs.Common.{◌/◌, ◌≤◌}
use prog.RawLaws.{size-raw, align-raw}
use types.Logic.{Logic, sem}
use types.Kit.{Item, Goal, Seq, Step, step, ‵, ◌⊛◌, ◌$◌, ◌∵◌, !, qed, by, done, move, drop, use1, split, rewrite, fsplit, fjoin, flt_l, flt_i}
use denote.RattleType.{RattleType}
use denote.RawPtr.{Ptr, block_ptr, in_a_block}
use denote.Memory.{lone}
use denote.Steps.{nothing}
use denote.Index.{others, takes, puts, place, place_is}
use Rattle.std.specs.Allocator.{array_of, HasLayout}
use Rattle.std.specs.Mem.{type_size}
use Rattle.entry_pool.specs.Owned.{place_at, place_parts, places, places_at, block_owns}

-- machine values of one type are one, which fits it
pub one_value : (τ : Ty) (vs : List Val) → Typed (τ ∷ []) vs → (v : Val) × ((vs ≡ v ∷ []) × (T (has_ty τ v) × WT v))
one_value τ [] typed = absurd typed
one_value τ (v ∷ []) typed = (v, (refl, typed.0))
one_value τ (v ∷ u ∷ vs) typed = absurd typed.1

-- what `size_of` counts for a block that fits, however large one value is
pub capped_product : (capacity size : ℕ) → capacity * size < 2 ^ 63 → capacity * capped size ≡ capacity * size
capped_product zero size bytes = omega arith
capped_product (suc n) size bytes = ap (λ (k : ℕ). suc n * k) (capped_is size (omega (arith, mul-le-mul_right {m = 1} {n = suc n} size (omega arith))))

-- the layout of a block that fits
pub block_layout : (one : Ty) (capacity : ℕ) → capacity * size one < 2 ^ 63 → HasLayout (raw_ty (ty_array one capacity)) (capacity * size one) (capped (align one))
block_layout one capacity bytes = (ap capped (size-raw (ty_array one capacity)) ∙ capped_is (capacity * size one) (omega arith), ap capped (align-raw (ty_array one capacity)))

module _ {M : Type 1} {𝓤 : Ura M} (𝓛 : Logic 𝓤) (R : RattleType) where
  open 𝓛 use {H}

  abbrev one : Ty
  one = raw_ty (lone R.mir)

  next_place : (o : ℕ) → o + size one ≡ o + type_size R
  next_place o = ap (λ (k : ℕ). o + k) (size-raw (lone R.mir))

  -- room for so many values is so many places with nothing, and the other way
  pub rooms_out : (n b o : ℕ) → ent 𝓤 (H.room (array_of R n) b o) (sem 𝓛 (places R (replicate n None) b o))
  rooms_out zero b o = qed 𝓛 (‵ (froom (array_of R 0) b o) ∷ []) ∵ drop ! $ nothing ! $ done !
  rooms_out (suc n) b o =
      qed 𝓛 (‵ (froom (array_of R (suc n)) b o) ∷ []) ∵
      use1 𝓛 (‵ (froom one b o) ⊛ ‵ (froom (array_of R n) b (o + size one))) (𝓛.laws.room_uncons one n b o) $ split ! $ move ! (1 ∷ []) $
      rewrite ! 0 (λ (k : ℕ). ‵ (froom (array_of R n) b k)) (next_place o) refl $
      use1 𝓛 (‵ (places R (replicate n None) b (o + type_size R))) (rooms_out n b (o + type_size R)) $ move ! (1 ∷ 0 ∷ []) $ fjoin ! $ done !

  pub rooms_in : (n b o : ℕ) → ent 𝓤 (sem 𝓛 (places R (replicate n None) b o)) (H.room (array_of R n) b o)
  rooms_in zero b o = 𝓛.laws.room_nil one b o
  rooms_in (suc n) b o =
      qed 𝓛 (‵ (places R (replicate (suc n) None) b o) ∷ []) ∵ fsplit ! $ move ! (1 ∷ []) $
      use1 𝓛 (‵ (froom (array_of R n) b (o + type_size R))) (rooms_in n b (o + type_size R)) $
      rewrite ! 0 (λ (k : ℕ). ‵ (froom (array_of R n) b k)) (sym (next_place o)) refl $ move ! (1 ∷ 0 ∷ []) $ by ! (𝓛.laws.room_cons one n b o)

  -- one place among the others, and with something else
  pub place_out : (xs : List (Option R.Denot)) (i : ℕ) (v : Option R.Denot) (b o : ℕ) → i < length xs → get_or xs i None ≡ v
      → ent 𝓤 (sem 𝓛 (places R xs b o)) (sep 𝓤 (sem 𝓛 (place_at R full_share v b (i * type_size R + o))) (sem 𝓛 (others (place_parts R) full_share xs i b o)))
  place_out xs i v b o within found =
      qed 𝓛 (‵ (places R xs b o) ∷ []) ∵
      use1 𝓛 (‵ (place_at R full_share (get_or xs i None) b (place (type_size R) o i)) ⊛ ‵ (others (place_parts R) full_share xs i b o)) (takes (place_parts R) full_share 𝓛 xs i None b o within) $ split ! $
      rewrite ! 0 (λ (k : ℕ). ‵ (place_at R full_share (get_or xs i None) b k)) (place_is (type_size R) o i) refl $
      rewrite ! 0 (λ (z : Option R.Denot). ‵ (place_at R full_share z b (i * type_size R + o))) found refl $ done !

  pub place_in : (xs : List (Option R.Denot)) (i : ℕ) (v : Option R.Denot) (b o : ℕ) → i < length xs
      → ent 𝓤 (sep 𝓤 (sem 𝓛 (place_at R full_share v b (i * type_size R + o))) (sem 𝓛 (others (place_parts R) full_share xs i b o))) (sem 𝓛 (places R (set xs i v) b o))
  place_in xs i v b o within =
      qed 𝓛 (‵ (place_at R full_share v b (i * type_size R + o)) ∷ ‵ (others (place_parts R) full_share xs i b o) ∷ []) ∵
      rewrite ! 0 (λ (k : ℕ). ‵ (place_at R full_share v b k)) (sym (place_is (type_size R) o i)) refl $ by ! (puts (place_parts R) full_share 𝓛 xs i v b o within)

module _ {M : Type 1} {𝓤 : Ura M} {𝓛 : Logic 𝓤} {K : Type 0} {Γ : List (Item 𝓤)} {G : Goal 𝓤 𝓛.H} (R : RattleType) (token : Ty → Ptr → Fml) (p : Ptr) (capacity : ℕ) where
  -- what a block owns is taken apart: [the places; the right to free the block]
  pub apart : K → (xs : List (Option R.Denot))
      → ((b o : ℕ) → p ≡ block_ptr b o → capacity * type_size R < 2 ^ 63 → length xs < capacity + 1 → Seq K 𝓛 (‵ (places R xs b o) ∷ ‵ (token (array_of R capacity) p) ∷ Γ) G)
      → Seq K 𝓛 (‵ (block_owns token R p capacity xs) ∷ Γ) G
  apart t xs k = fsplit t $ fsplit t $ flt_l t (λ bytes. flt_l t (λ few. fsplit t $ in_a_block t p (λ z. places_at R z xs) (id⊢ 𝓤 _) (λ b o e. k b o e bytes few)))

  -- and put together
  pub together : K → (xs : List (Option R.Denot)) (b o : ℕ) → p ≡ block_ptr b o → capacity * type_size R < 2 ^ 63 → length xs < capacity + 1
      → Step K 𝓛 (‵ (block_owns token R p capacity xs) ∷ Γ) G (‵ (places R xs b o) ∷ ‵ (token (array_of R capacity) p) ∷ Γ) G
  together t xs b o e bytes few = step (λ s.
      rewrite t 0 (λ (z : Ptr). ‵ (places_at R z xs)) (sym e) refl $ fjoin t $ flt_i t (length xs) (capacity + 1) few $ flt_i t (capacity * type_size R) (2 ^ 63) bytes $ fjoin t $ fjoin t $ s)

-- a large constant
pub large : {M : Type 1} {𝓤 : Ura M} {𝓛 : Logic 𝓤} {K : Type 0} {Γ : List (Item 𝓤)} {E : Env 𝓤 𝓛.H} → K → {w : Width} {n : ℕ} → Fits w n → Opd K 𝓛 Γ E (int_big w n) (vint w n)
large {𝓤 = 𝓤} t {w} {n} fits = record { go = λ Kt h. via 𝓤 (Kt (vint w n)) h (guard_i 𝓤 (Fits w n) (Kt (vint w n)) fits) }

-- what is not larger than a part of the whole is as often within it
often_within : (whole size count : ℕ) → size ≤ whole / count → count * size ≤ whole
often_within whole size count within = omega (arith, mul-le-mul_left {m = size} {n = whole / count} count within, mul-div-le whole count)

-- so many values fit a block, where what `size_of` says of one is not above their part of it
pub fits_from_test : (size count : ℕ) → leb (capped size) (9223372036854775807 / count) ≡ true → count * size < 2 ^ 63
fits_from_test size count tested =
    let within = leb-true _ _ tested in let part = div-le_self 9223372036854775807 count in
    let small = capped_small size (omega arith) in let same = capped_is size (omega arith) in
    omega (arith, often_within 9223372036854775807 size count (omega arith))
