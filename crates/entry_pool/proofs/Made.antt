-- How a block is made of what the allocator answers. Assumes `Logic`.
use Rattle.std.proofs.Common.{◌≡◌, ℕ, ◌*◌, ◌^◌, ◌<◌, List, [], ◌∷◌, ◌++◌, refl, ap, ◌∙◌, w64, arith}
use seplogic.Ra.Ura.{Ura}
use base.Fml.{Fml, froom, fsep}
use base.Logic.{ent, sep, emp, never, fst∗}
use mir.Syntax.{Ty}
use mir.Val.{Val, vptr, vint, vstruct, vnil, of_list}
use types.Logic.{Logic, sem}
use types.Kit.{Item, Goal, Seq, ‵, ◌$◌, ◌∵◌, !, qed, done, move, drop, use0, use1, fsplit, fjoin, fpack, feq_i}
use types.Match.{live}
use denote.Enum.Declared as enum
use denote.Enum.Enum.{form_of, in_a_row}
use denote.Enum.Row.{tagged_with}
use denote.Laws.{Is, shows}
use denote.RattleType.{RattleType, Valss, owns}
use denote.RawPtr.{Ptr, RawPtr, block_ptr, null_ptr, ptr_val, room_for, in_a_block}
use denote.Struct.Declared as struct
use denote.Steps.{only, nothing, owned, peeks}
use denote.Struct.Struct.{Struct, Struct-Makes}
use denote.Struct.Owning.{shape, to}
use Rattle.std.specs.Allocator.{array_of, block_if_ok}
use Rattle.std.specs.Mem.{type_size}
use Rattle.std.specs.declared.alloc.Global.{Global}
use Rattle.std.specs.contracts.impls.GlobalAllocator.TheImpl.{ghosts}
use Rattle.std.specs.contracts.result.Result as Result
use Rattle.std.specs.contracts.alloc.AllocError as AllocError
use Rattle.std.specs.declared.result.Result.TheVariants.{Ok, Err}
use Rattle.entry_pool.specs.declared.block.Block.{Block}
use Rattle.entry_pool.specs.contracts.block.Block.{the_row, the_type}
use Rattle.entry_pool.proofs.Memory.{together, rooms_out}
use Rattle.entry_pool.specs.Owned.{places}
use Rattle.std.proofs.lemmas.List.{length-replicate}
use Rattle.std.proofs.Common.{replicate, Option, None}
use Rattle.entry_pool.proofs.Opened.{word, fields}

-- a block with nothing in it
abbrev pub empty_block : {X : Type 0} → ℕ → ℕ → ℕ → Global → Block X
empty_block b o capacity alloc = record { start = block_ptr b o; capacity = capacity; alloc = alloc; items = replicate capacity None }

-- a block, or want of memory
abbrev pub Answer : RattleType → RattleType
Answer R = Result.the_row (the_row R) AllocError.the_row

module _ {M : Type 1} {𝓤 : Ura M} (𝓛 : Logic 𝓤) (R : RattleType) where
  pub fields_made : (b o capacity : ℕ) (alloc : Global) → capacity < 2 ^ 64 → ent 𝓤 (emp 𝓤) (sem 𝓛 ((fields R).own_val (to (the_type R) (empty_block b o capacity alloc)) (word b o capacity)))
  fields_made b o capacity alloc fits =
      qed 𝓛 [] ∵ owned ! (fields R) (Is (fields R)) (Struct-Makes 𝓛 (shape (the_type R)) (λ p vs. tt, (λ n vs. (tt, tt), tt))) (to (the_type R) (empty_block b o capacity alloc)) (word b o capacity)
      ((vptr b o ∷ [], (vint w64 capacity ∷ [], tt)), (refl, (refl, ((refl, fits), tt)))) $ done !

  -- the room that the allocator gave is a block
  pub block_made : (b o capacity : ℕ) (alloc : Global) → capacity < 2 ^ 63 → capacity * type_size R < 2 ^ 63
      → ent 𝓤 (sep 𝓤 (𝓛.H.room (array_of R capacity) b o) (sem 𝓛 (ghosts.dealloc_token alloc (array_of R capacity) (block_ptr b o)))) (sem 𝓛 ((the_row R).own_val (empty_block b o capacity alloc) (word b o capacity)))
  block_made b o capacity alloc small bytes =
      qed 𝓛 (‵ (froom (array_of R capacity) b o) ∷ ‵ (ghosts.dealloc_token alloc (array_of R capacity) (block_ptr b o)) ∷ []) ∵
      use1 𝓛 (‵ (places R (replicate capacity None) b o)) (rooms_out 𝓛 R capacity b o) $
      together R (ghosts.dealloc_token alloc) (block_ptr b o) capacity ! (replicate capacity None) b o refl bytes (omega (arith, length-replicate {A = Option R.Denot} capacity None)) $
      use0 𝓛 (‵ ((fields R).own_val (to (the_type R) (empty_block b o capacity alloc)) (word b o capacity))) (fields_made b o capacity alloc (omega arith)) $ fjoin ! $ done !

  pub ok_made : (h : Block R.Denot) (u : Val) → ent 𝓤 (sem 𝓛 ((the_row R).own_val h (u ∷ []))) (sem 𝓛 ((Answer R).own_val (Ok h) (live 0 (of_list (u ∷ [])) ∷ [])))
  ok_made h u =
      let Row = Result.the_type (the_row R) AllocError.the_row in let F = form_of (enum.shape Row) in let vs = live 0 (of_list (u ∷ [])) ∷ [] in
      qed 𝓛 (‵ ((the_row R).own_val h (u ∷ [])) ∷ []) ∵ nothing ! $ move ! (1 ∷ 0 ∷ []) $ fjoin ! $ feq_i ! (List Val) (u ∷ []) (u ∷ []) refl $ fjoin ! $
      fpack ! (Valss (the_row R ∷ [])) (in_a_row (the_row R ∷ []) (owns (the_row R ∷ []) (h, tt)) (u ∷ [])) (u ∷ [], tt) $
      feq_i ! (List Val) vs vs refl $ fjoin ! $ fpack ! (List Val) (tagged_with F F.payload (Row.to (Ok h)) vs) (u ∷ []) $ done !

  pub err_made : ent 𝓤 (emp 𝓤) (sem 𝓛 ((Answer R).own_val (Err (record {})) (live 1 (of_list (vstruct vnil ∷ [])) ∷ [])))
  err_made =
      let Row = Result.the_type (the_row R) AllocError.the_row in let F = form_of (enum.shape Row) in
      let none = vstruct vnil ∷ [] in let vs = live 1 (of_list none) ∷ [] in let Error = Struct (struct.shape AllocError.the_type) in
      qed 𝓛 [] ∵ nothing ! $ owned ! Error (Is Error) (Struct-Makes 𝓛 (struct.shape AllocError.the_type) tt) tt none (tt, (refl, tt)) $ fjoin ! $
      feq_i ! (List Val) none none refl $ fjoin ! $ fpack ! (Valss (AllocError.the_row ∷ [])) (in_a_row (AllocError.the_row ∷ []) (owns (AllocError.the_row ∷ []) (record {}, tt)) none) (none, tt) $
      feq_i ! (List Val) vs vs refl $ fjoin ! $ fpack ! (List Val) (tagged_with F F.payload (Row.to (Err (record {}))) vs) none $ done !

abbrev pub Given : RattleType
Given = Result.the_row RawPtr AllocError.the_row

module _ {M : Type 1} {𝓤 : Ura M} {𝓛 : Logic 𝓤} {K : Type 0} {Γ : List (Item 𝓤)} {G : Goal 𝓤 𝓛.H} (token : Ty → Ptr → Fml) (τ : Ty) (v : Val) where
  -- the two cases of what the allocator answered: [the room; the right to free it], or nothing
  pub answered : K → (r : Given.Denot)
      → ((b o : ℕ) → v ≡ live 0 (of_list (vptr b o ∷ [])) → Seq K 𝓛 (‵ (froom τ b o) ∷ ‵ (token τ (block_ptr b o)) ∷ Γ) G) → (v ≡ live 1 (of_list (vstruct vnil ∷ [])) → Seq K 𝓛 Γ G)
      → Seq K 𝓛 (‵ (Given.own_val r (v ∷ [])) ∷ ‵ (block_if_ok token τ r) ∷ Γ) G
  answered t (Ok p) ok none =
      peeks t Given _ (shows 𝓛 Given) (Ok p) (v ∷ []) (λ is. drop t $ in_a_block t p (λ z. fsep (room_for τ z) (token τ z)) (fst∗ 𝓤 (never 𝓤) (sem 𝓛 (token τ null_ptr))) (λ b o e. fsplit t $ ok b o
      (ap only is.1.0 ∙ ap (λ (us : List Val). live 0 (of_list us)) (is.1.1.1.0 ∙ ap (λ (us : List Val). us ++ []) (is.1.1.1.1.0 ∙ ap (λ (z : Ptr). ptr_val z ∷ []) e)))))
  answered t (Err n) ok none = peeks t Given _ (shows 𝓛 Given) (Err n) (v ∷ []) (λ is. drop t $ drop t $ none
      (ap only is.1.0 ∙ ap (λ (us : List Val). live 1 (of_list us)) (is.1.1.1.0 ∙ ap (λ (us : List Val). us ++ []) is.1.1.1.1.0.1.0)))
