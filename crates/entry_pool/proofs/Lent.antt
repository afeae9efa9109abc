-- How what a block owns is lent. Assumes `Logic`.
use Rattle.std.proofs.Common.{◌≡◌, ℕ, ◌<◌, length, zero, suc, ◌+◌, ◌*◌, List, [], ◌∷◌, get_or, Option, Some, None, IsSome, refl, sym, arith, true≢false}
use Rattle.std.proofs.Common.{◌^◌}
use Rattle.std.proofs.Math.Nat.{mul-le-mul_right}
use Rattle.entry_pool.specs.declared.block.Block.{Block}
use Rattle.entry_pool.specs.contracts.block.Block.{the_row, the_type}
use denote.Struct.Struct.{Struct}
use denote.Struct.Owning.{shape, to}
use seplogic.Ra.Ura.{Ura}
use base.Fml.{Lft, Fml, ftrue, fbor}
use base.Logic.{ent, emp, id⊢}
use mir.Syntax.{Ty}
use types.Logic.{Logic, lfts, sem}
use types.Kit.{keep, rewrite, fsplit, use1, ‵, ◌⊛◌, raw, later, await, ◌$◌, ◌∵◌, !, qed, use0, use2, split, fjoin, updating, now, done}
use base.Logic.{sep}
use denote.RattleType.{RattleType, RowLaws}
use denote.RawPtr.{RawPtr, Ptr, block_ptr, null_ptr, block_of, count_of, in_block}
use denote.Memory.{hidden_shr, each_shared, each_shr_laws}
use denote.Shares.{Shares}
use denote.Sharing.{ShrLaws, said}
use denote.SharingLaws.{beside_shr_laws, nothing_shr_laws, said_shr_laws}
use base.Fraction.{full_share}
use denote.Struct.Lending.{Lends, Lends-nothing, Lends-false, Lends-first, Lends-both, Lends-said, in_block_pure}
use Rattle.std.specs.Mem.{type_size}
use Rattle.entry_pool.specs.Owned.{bounds, place_at, place_lent, places, places_at, places_lent, block_owns, block_lends}

zero_more : (s o : ℕ) → 0 * s + o ≡ o
zero_more s o = omega arith

one_more : (s i o : ℕ) → i * s + (o + s) ≡ suc i * s + o
one_more s i o = omega arith

module _ (R : RattleType) where
  place_laws : RowLaws R → (x : Option R.Denot) (b o : ℕ) → ShrLaws (place_lent R x b o)
  place_laws L None b o = nothing_shr_laws
  place_laws L (Some x) b o = L x b o

  pub lent_laws : RowLaws R → (p : Ptr) (capacity : ℕ) (xs : List (Option R.Denot)) → ShrLaws (block_lends R p capacity xs)
  lent_laws L p capacity xs =
      beside_shr_laws (said (bounds R capacity xs)) (places_lent R p xs) (said_shr_laws (bounds R capacity xs) (tt, tt))
      (beside_shr_laws (said (in_block p ftrue)) (each_shared xs (place_lent R) (type_size R) (block_of p) (count_of p))
      (said_shr_laws (in_block p ftrue) (in_block_pure p)) (each_shr_laws xs (place_lent R) (place_laws L) (type_size R) (block_of p) (count_of p)))

  module _ {M : Type 1} {𝓤 : Ura M} (𝓛 : Logic 𝓤) (l : Lft) (s : Shares 𝓛 R l) where
    open 𝓛 use {H}

    place_lend : (x : Option R.Denot) (b o : ℕ) → Lends 𝓛 (place_at R full_share x b o) (place_lent R x b o) l
    place_lend None b o = Lends-nothing 𝓛 (place_at R full_share None b o) l
    place_lend (Some x) b o = λ κ ts inc sp. s x κ ts b o inc sp

    each_lend : (xs : List (Option R.Denot)) (b o : ℕ) → Lends 𝓛 (places R xs b o) (each_shared xs (place_lent R) (type_size R) b o) l
    each_lend [] b o = Lends-nothing 𝓛 ftrue l
    each_lend (x ∷ xs) b o =
        Lends-both 𝓛 (place_at R full_share x b o) (places R xs b (o + type_size R)) (place_lent R x b o) (each_shared xs (place_lent R) (type_size R) b (o + type_size R)) l (place_lend x b o) (each_lend xs b (o + type_size R))

    places_lend : (p : Ptr) (xs : List (Option R.Denot)) → Lends 𝓛 (places_at R p xs) (places_lent R p xs) l
    places_lend null_ptr xs κ ts inc sp = Lends-false 𝓛 (places_lent R null_ptr xs) l κ ts inc sp
    places_lend (block_ptr b o) xs κ ts inc sp =
        qed 𝓛 (‵ (fbor κ (places R xs b o)) ∷ raw (lfts 𝓛 ts) ∷ []) {P = H.⇛ (sep 𝓤 (sem 𝓛 (places_lent R (block_ptr b o) xs κ)) (lfts 𝓛 ts))} (updating ! $
        use2 𝓛 (later (‵ (each_shared xs (place_lent R) (type_size R) b o κ) ⊛ raw (lfts 𝓛 ts))) (each_lend xs b o κ ts inc sp) $ await ! tt $ split ! $
        use0 𝓛 (‵ ftrue) (id⊢ 𝓤 (emp 𝓤)) $ fjoin ! $ now ! $ done !)

    pub block_lent : (token : Ty → Ptr → Fml) (p : Ptr) (capacity : ℕ) (xs : List (Option R.Denot)) → Lends 𝓛 (block_owns token R p capacity xs) (block_lends R p capacity xs) l
    block_lent token p capacity xs =
        Lends-both 𝓛 (bounds R capacity xs) _ (said (bounds R capacity xs)) (places_lent R p xs) l (Lends-said 𝓛 (bounds R capacity xs) (tt, tt) l)
        (Lends-first 𝓛 (places_at R p xs) _ (places_lent R p xs) l (places_lend p xs))

-- what a `&` to each place holds, holds what a `&` to one of them does
pub item_lent : {M : Type 1} {𝓤 : Ura M} (𝓛 : Logic 𝓤) {X : Type 0} (c : X → ℕ → ℕ → Lft → Fml) (size : ℕ) (xs : List X) (i : ℕ) (x d : X) (b o : ℕ) (κ : Lft) → i < length xs → get_or xs i d ≡ x
    → ent 𝓤 (sem 𝓛 (each_shared xs c size b o κ)) (sem 𝓛 (c x b (i * size + o) κ))
item_lent 𝓛 c size [] i x d b o κ within found = absurd (omega (arith, within))
item_lent 𝓛 c size (y ∷ ys) zero x d b o κ within found =
    qed 𝓛 (‵ (each_shared (y ∷ ys) c size b o κ) ∷ []) ∵ fsplit ! $ keep ! (0 ∷ []) $ rewrite ! 0 (λ (z : _). ‵ (c z b o κ)) found refl $
    rewrite ! 0 (λ (k : ℕ). ‵ (c x b k κ)) (sym (zero_more size o)) refl $ done !
item_lent 𝓛 c size (y ∷ ys) (suc i) x d b o κ within found =
    qed 𝓛 (‵ (each_shared (y ∷ ys) c size b o κ) ∷ []) ∵ fsplit ! $ keep ! (1 ∷ []) $ use1 𝓛 (‵ (c x b (i * size + (o + size)) κ)) (item_lent 𝓛 c size ys i x d b (o + size) κ (omega (arith, within)) found) $
    rewrite ! 0 (λ (k : ℕ). ‵ (c x b k κ)) (one_more size i o) refl $ done !

-- what a `&` to a block is: a `&` to its pointer, beside what it lends
pub lent_parts : {M : Type 1} {𝓤 : Ura M} (𝓛 : Logic 𝓤) (T : RattleType) (κ : Lft) (h : Block T.Denot) (b o : ℕ)
    → ent 𝓤 (sem 𝓛 (hidden_shr (the_row T) κ h b o)) (sep 𝓤 (sem 𝓛 (hidden_shr RawPtr κ h.start b (o + 0))) (sem 𝓛 (block_lends T h.start h.capacity h.items κ)))
lent_parts {𝓤 = 𝓤} 𝓛 T κ h b o =
    qed 𝓛 (‵ (hidden_shr (the_row T) κ h b o) ∷ []) ∵
    use1 𝓛 (‵ ((Struct (shape (the_type T))).shr_at (to (the_type T) h) b o κ) ⊛ ‵ (block_lends T h.start h.capacity h.items κ)) (id⊢ 𝓤 _) $ split ! $
    fsplit ! $ fsplit ! $ keep ! (0 ∷ 3 ∷ []) $ use1 𝓛 (‵ (hidden_shr RawPtr κ h.start b (o + 0))) (id⊢ 𝓤 _) $ done !

-- a place that is told to have a value
pub record Held (X : Type 0) (xs : List (Option X)) (i : ℕ) : Type 0 where
  pub value : X
  pub is : get_or xs i None ≡ Some value
  pub within : i < length xs

pub held_at : {X : Type 0} (xs : List (Option X)) (i : ℕ) → IsSome (get_or xs i None) → Held X xs i
held_at [] i some = absurd (true≢false (sym some))
held_at (None ∷ xs) zero some = absurd (true≢false (sym some))
held_at (Some x ∷ xs) zero some = record { value = x; is = refl; within = omega arith }
held_at (x ∷ xs) (suc i) some = let rest = held_at xs i some in record { value = rest.value; is = rest.is; within = omega (arith, rest.within) }

-- so many values before the i-th take less than 2 ^ 63 bytes, and so does one of them
pub before_fits : (capacity size i n : ℕ) → capacity * size < 2 ^ 63 → n < capacity + 1 → i < n → i * size < 2 ^ 63
before_fits capacity size i n bytes few inside = omega (arith, mul-le-mul_right {m = i} {n = capacity} size (omega arith))

pub one_fits : (capacity size i n : ℕ) → capacity * size < 2 ^ 63 → n < capacity + 1 → i < n → size < 2 ^ 63
one_fits capacity size i n bytes few inside = omega (arith, mul-le-mul_right {m = 1} {n = capacity} size (omega arith))
