-- A `&mut` to a block is opened, and closed at other values. Assumes `Logic`.
use Rattle.std.proofs.Common.{◌≡◌, ℕ, ◌+◌, ◌*◌, ◌^◌, ◌<◌, List, [], ◌∷◌, length, refl, ap, ◌∙◌, w64, MutBor, set, length-set, Option, Some, arith}
use seplogic.Ra.Ura.{Ura}
use base.Fraction.{full_share}
use base.Fml.{fsep, Lft, Share, flft, fobor, fbor, fobs, fauth}
use mir.Syntax.{Lifetime}
use mir.Val.{Val, vptr, vint, vstruct, vcons, vnil}
use base.Logic.{ent}
use types.Logic.{Logic, sem}
use types.SemTy.{Body}
use types.Kit.{by, use2, ⋆, ◌∵◌, !, qed, done, fpack, Item, Goal, Soaks, Seq, Step, step, ‵, ◌$◌, move, drop, rewrite, fsplit, fsplit3, fjoin}
use denote.Laws.{shows}
use denote.Param.Laws.{Laws}
use denote.Memory.{cell_at, mem, part_at, part_of}
use denote.Index.{others}
use denote.RattleType.{RattleType}
use denote.RawPtr.{Ptr, block_ptr, ptr_val}
use denote.Ref.{MutRef, mut_vals}
use denote.Steps.{opens, closes, peeks}
use denote.Struct.Struct.{Struct}
use denote.Struct.Owning.{shape, to}
use Rattle.std.specs.Allocator.{array_of}
use Rattle.std.specs.Mem.{type_size}
use Rattle.std.specs.contracts.impls.GlobalAllocator.TheImpl.{ghosts}
use Rattle.entry_pool.specs.Blocks.{with_items}
use Rattle.entry_pool.specs.declared.block.Block.{Block}
use Rattle.entry_pool.specs.contracts.block.Block.{the_row, the_type}
use Rattle.entry_pool.proofs.block.Block.TheLaws.{lowers}
use Rattle.entry_pool.proofs.Memory.{apart, together, place_in}
use Rattle.entry_pool.specs.Owned.{place_parts, places}

-- the machine value of a block whose memory is at this place
abbrev pub word : ℕ → ℕ → ℕ → List Val
word b o capacity = vstruct (vcons (vptr b o) (vcons (vint w64 capacity) vnil)) ∷ []

abbrev pub fields : RattleType → RattleType
fields R = Struct (shape (the_type R))

module _ {M : Type 1} {𝓤 : Ura M} (R : RattleType) (κ : Lft) (q : Share) (r : MutBor (Block R.Denot)) where
  -- [the places; the right to free the block; the fields, and the block's own cell; the open borrow, in three entries]
  abbrev pub inside : List (Option R.Denot) → ℕ → ℕ → List (Item 𝓤) → List (Item 𝓤)
  inside xs bs os Δ =
      let h = r.now in
      ‵ (places R xs bs os) ∷ ‵ (ghosts.dealloc_token h.alloc (array_of R h.capacity) h.start)
      ∷ ‵ ((fields R).own_val (to (the_type R) h) (word bs os h.capacity)) ∷ ‵ (cell_at full_share (the_row R).mir (word bs os h.capacity) r.ref_ptr.0 r.ref_ptr.1)
      ∷ ‵ (fobor κ q (Body (mem (the_row R)) r.ref_ptr.0 r.ref_ptr.1 r.ghost_name)) ∷ ‵ (fobs r.ghost_name ((the_row R).coded.code h)) ∷ ‵ (fauth r.ghost_name ((the_row R).coded.code h)) ∷ Δ

module _ {M : Type 1} {𝓤 : Ura M} {𝓛 : Logic 𝓤} {K : Type 0} {Γ : List (Item 𝓤)} {G : Goal 𝓤 𝓛.H} (R : RattleType) (ℓ : Lifetime) (κ : Lft) (q : Share) (r : MutBor (Block R.Denot)) where
  pub opened : K → Soaks G → Laws R → ((bs os : ℕ) → r.now.start ≡ block_ptr bs os → r.now.capacity * type_size R < 2 ^ 63 → length r.now.items < r.now.capacity + 1 → Seq K 𝓛 (inside R κ q r r.now.items bs os Γ) G)
      → Seq K 𝓛 (‵ ((MutRef ℓ κ (the_row R)).own_val r (mut_vals r)) ∷ ‵ (flft κ q) ∷ Γ) G
  opened t z L k =
      let h = r.now in let b = r.ref_ptr.0 in let o = r.ref_ptr.1 in
      fsplit3 t $ drop t $ opens t z (the_row R) b o (λ us. move t (1 ∷ []) $ peeks t (the_row R) _ (shows 𝓛 (the_row R)) h us (λ is. fsplit t $ move t (1 ∷ []) $
      apart R (ghosts.dealloc_token h.alloc) h.start h.capacity t h.items (λ bs os e bytes few.
      let spelt : us ≡ word bs os h.capacity = (lowers R L).val_is h us is ∙ ap (λ (p : Ptr). vstruct (vcons (ptr_val p) (vcons (vint w64 h.capacity) vnil)) ∷ []) e in
      rewrite t 2 (λ (ws : List Val). ‵ ((fields R).own_val (to (the_type R) h) ws)) spelt refl $ rewrite t 3 (λ (ws : List Val). ‵ (cell_at full_share (the_row R).mir ws b o)) spelt refl $
      k bs os e bytes few)))

  pub closed : K → Soaks G → (xs : List (Option R.Denot)) (bs os : ℕ) → r.now.start ≡ block_ptr bs os → r.now.capacity * type_size R < 2 ^ 63 → length xs < r.now.capacity + 1
      → Step K 𝓛 (‵ (fobs r.ghost_name ((the_row R).coded.code (with_items r.now xs))) ∷ ‵ (fbor κ (Body (mem (the_row R)) r.ref_ptr.0 r.ref_ptr.1 r.ghost_name)) ∷ ‵ (flft κ q) ∷ Γ) G (inside R κ q r xs bs os Γ) G
  closed t z xs bs os e bytes few = step (λ s. let h = r.now in
      together R (ghosts.dealloc_token h.alloc) h.start h.capacity t xs bs os e bytes few $ move t (1 ∷ 0 ∷ []) $ fjoin t $ move t (1 ∷ 0 ∷ []) $
      closes t z (the_row R) (with_items h xs) (word bs os h.capacity) r.ref_ptr.0 r.ref_ptr.1 $ s)

-- what lies in an open block is a block, with these places
pub back_in : {M : Type 1} {𝓤 : Ura M} (𝓛 : Logic 𝓤) (R : RattleType) (h : Block R.Denot) (xs : List (Option R.Denot)) (b o bs os : ℕ) → h.start ≡ block_ptr bs os → h.capacity * type_size R < 2 ^ 63 → length xs < h.capacity + 1
    → ent 𝓤 (⋆ 𝓛 (‵ (places R xs bs os) ∷ ‵ (ghosts.dealloc_token h.alloc (array_of R h.capacity) h.start)
    ∷ ‵ ((fields R).own_val (to (the_type R) h) (word bs os h.capacity)) ∷ ‵ (cell_at full_share (the_row R).mir (word bs os h.capacity) b o) ∷ [])) (sem 𝓛 (part_at (the_row R) full_share (with_items h xs) b o))
unfolding part_of
back_in 𝓛 R h xs b o bs os e bytes few =
    qed 𝓛 (‵ (places R xs bs os) ∷ ‵ (ghosts.dealloc_token h.alloc (array_of R h.capacity) h.start)
    ∷ ‵ ((fields R).own_val (to (the_type R) h) (word bs os h.capacity)) ∷ ‵ (cell_at full_share (the_row R).mir (word bs os h.capacity) b o) ∷ []) ∵
    together R (ghosts.dealloc_token h.alloc) h.start h.capacity ! xs bs os e bytes few $ move ! (1 ∷ 0 ∷ []) $ fjoin ! $ move ! (1 ∷ 0 ∷ []) $ fjoin ! $
    fpack ! (List Val) (λ us. fsep (cell_at full_share (the_row R).mir us b o) ((the_row R).own_val (with_items h xs) us)) (word bs os h.capacity) $ done !

-- what is left of an open block, where one value is lent from among the others
abbrev pub without_item : {M : Type 1} (𝓤 : Ura M) (R : RattleType) (h : Block R.Denot) (at b o bs os : ℕ) → List (Item 𝓤)
without_item 𝓤 R h at b o bs os =
    ‵ (others (place_parts R) full_share h.items at bs os) ∷ ‵ (ghosts.dealloc_token h.alloc (array_of R h.capacity) h.start)
    ∷ ‵ ((fields R).own_val (to (the_type R) h) (word bs os h.capacity)) ∷ ‵ (cell_at full_share (the_row R).mir (word bs os h.capacity) b o) ∷ []

pub lent_back : {M : Type 1} {𝓤 : Ura M} (𝓛 : Logic 𝓤) (R : RattleType) (h : Block R.Denot) (at : ℕ) (w : R.Denot) (b o bs os : ℕ) → h.start ≡ block_ptr bs os → h.capacity * type_size R < 2 ^ 63 → length h.items < h.capacity + 1 → at < length h.items
    → ent 𝓤 (⋆ 𝓛 (‵ (part_at R full_share w bs (at * type_size R + os)) ∷ without_item 𝓤 R h at b o bs os)) (sem 𝓛 (part_at (the_row R) full_share (with_items h (set h.items at (Some w))) b o))
lent_back {𝓤 = 𝓤} 𝓛 R h at w b o bs os e bytes few within =
    qed 𝓛 (‵ (part_at R full_share w bs (at * type_size R + os)) ∷ without_item 𝓤 R h at b o bs os) ∵
    use2 𝓛 (‵ (places R (set h.items at (Some w)) bs os)) (place_in 𝓛 R h.items at (Some w) bs os within) $
    by ! (back_in 𝓛 R h (set h.items at (Some w)) b o bs os e bytes (omega (arith, length-set h.items at (Some w), few)))
