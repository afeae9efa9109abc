-- The allocator answers the room of a block with the right to free it, or nothing.
use Rattle.entry_pool.proofs.Steps.{ℕ, ◌*◌, [], ◌∷◌, refl, arith, w64, proved, fact, tables, ‵, raw, ◌⊛◌, ◌$◌, ◌∵◌, !, qed, ftrue, flft, named, a_type, dnil, inst_fn, usize, yes, bounded, param, uint_vals, uint_Tells, ShrRef, shr_vals, shr_Tells, plain, shr_ref_to, Stays, walk_of, stay_dropped, Goes-dropped, split, drop, heard, move}
use Rattle.std.proofs.Common.{List}
use contract.BorrowLft.{◌⊑◌}
use mir.Val.{vstruct, vcons, vnil}
use types.Part.{whole}
use types.ByLocal.{get_in}
use Rattle.std.specs.Mem.{type_size}
use Rattle.std.specs.Allocator.{array_of}
use Rattle.std.specs.contracts.impls.GlobalAllocator.TheImpl.{ghosts}
use Rattle.entry_pool.proofs.Memory.{capped_product}
use Rattle.entry_pool.proofs.Steps.{vint, vptr, keep, fjoin, enter, of_opd, bin, stop, fld, first, exec, returns, alloc_all, pass_all, free_all, look_at, get, sets, env, at_ret, after, suffices, says, ends_at}
use Rattle.std.proofs.Common.{ap}
use types.Run.{size_word}
use types.ByLocal.{is}
use prog.Memory.{align, capped}
use denote.Memory.{lone}
use Rattle.entry_pool.proofs.Steps.{use1}
use Rattle.std.proofs.Common.{◌^◌}
use mir.Val.{Val}
use prog.Capped.{capped_fits}
use contract.Monad.{fact_i}
use base.Logic.{emp, id⊢}
use types.Run.{align_word}
use denote.Triple.Table.{framed}
use denote.Triple.Clauses.{lasts}
use Rattle.std.specs.Allocator.{HasLayout}
use Rattle.entry_pool.proofs.Memory.{block_layout}
use Rattle.entry_pool.proofs.Steps.{use0, join, nothing, flt_i, feq_i, some, later, await, pick, and_then, no_more}
use Rattle.entry_pool.proofs.Steps.{done}
use Rattle.std.specs.Vec.Ownership.{FitsInBlock}
use denote.Triple.Call.{calls_at}
use Rattle.std.specs.Allocator.{block_if_ok}
use Rattle.entry_pool.proofs.Made.{Given, answered, empty_block, block_made, ok_made, err_made}
use Rattle.std.proofs.Common.{lit<}
use mir.Val.{of_list}
use types.Match.{live, vrt, in_variant}
use types.Part.{agg}
use types.Run.{switches_on}
use types.ByLocal.{get_tag}
use Rattle.std.proofs.VecSteps.Shapes.{head, arm_body}
use Rattle.entry_pool.proofs.Opened.{word}
use Rattle.entry_pool.proofs.Steps.{lit, lands_as, use2, sets_last}
use types.Kit.{Post, any_q, post}
use prog.Wp.{Wp, after_seq}
use Rattle.std.specs.declared.result.Result.TheVariants.{Ok, Err}
use Rattle.entry_pool.proofs.Made.{Answer}
use denote.Triple.Spec.{triple_of}
use Rattle.std.specs.contracts.alloc.Global.{the_row as heap}
use Rattle.std.specs.contracts.impls.GlobalAllocator.allocate as g
use Rattle.std.proofs.impls.GlobalAllocator.allocate.Met.{met}
use Rattle.entry_pool.specs.contracts.block.Block.allocate as f
use Rattle.entry_pool.specs.contracts.block.Block.{the_row as R}
use Rattle.entry_pool.proofs.block.Block.allocate.Statement.{statement}
use Rattle.entry_pool.proofs.block.Block.allocate.Code as code

pub allocate_spec : {M : Type 1} → statement M
allocate_spec 𝓤 𝓛 𝓜 𝓡 wired T₀ L =
    let ended = f.ended T₀ in let c = f.clauses T₀ 𝓛 𝓜.mem 𝓡.returns in
    let E = param 0 T₀ in let B = R E in
    let alloc = shr_ref_to (0 ∷ []) tt (plain (λ _. heap)) in let count = plain (λ _. usize) in
    let stayed : Stays ended.signature.params ended.kept = (stay_dropped alloc yes, (stay_dropped count yes, tt)) in
    let W = walk_of 𝓛 ended stayed c in let 𝓣 = tables 𝓤 𝓛.H 𝓜 𝓡 𝓡.env in
    let args = bounded (a_type ∷ []) (T₀, tt) dnil in let F = inst_fn args code.function in
    proved 𝓛 ended stayed c 𝓜 𝓡
    (Goes-dropped 𝓛 2 alloc yes (λ κs x w. refl), (Goes-dropped 𝓛 2 count yes (λ κs x w. refl), tt))
    (f.Key.name args) F (code.unfolded 𝓤 𝓛.H 𝓜 𝓡 wired (T₀, tt))
    (λ κs. (shr_vals, (uint_vals w64, tt))) (λ κs. (shr_Tells (named 0) κs.0 heap, (uint_Tells w64, tt))) (λ κs qs bounds a _ are.
    let κ = κs.0 in let q = qs.0 in let r = a.0 in let b = r.ref_ptr.0 in let o = r.ref_ptr.1 in let capacity = a.1.0 in
    let whole_size = capacity * type_size E in let ty = array_of E capacity in
    let y : W.Ghost = ((κs, qs, bounds, a, (shr_vals r, (uint_vals w64 capacity, tt))), tt) in
    let then_rest : (ℕ → ℕ) → Post 𝓤 𝓛.H = λ l. let q = post 𝓤 𝓛.H (at_ret (env F.locals l) (W.post y)) in any_q (after_seq 𝓤 𝓛.H (Wp 𝓤 𝓛.H 𝓣.C 𝓣.Λ (env F.locals l) (after 3 F.body) q) q) in
    qed 𝓛 (((‵ (flft κ q) ⊛ ‵ (flft κs.1.0 qs.1.0) ⊛ ‵ ftrue) ⊛ ‵ ((ShrRef (named 0) κ heap).own_val r (shr_vals r)) ⊛ ‵ (usize.own_val capacity (uint_vals w64 capacity)) ⊛ ‵ ftrue)
    ∷ (raw (fact 𝓤 (κs.1.0 ⊑ T₀.lives)) ⊛ raw (fact 𝓤 (FitsInBlock E capacity))) ∷ []) ∵
    move ! (1 ∷ []) $ split ! $ drop ! $ heard ! _ (λ fits.
    let bytes = fits.0 in let small = fits.1 in let product = capped_product capacity (type_size E) bytes in
    split ! $ split ! $ move ! (2 ∷ []) $ split ! $ keep ! (0 ∷ 2 ∷ 3 ∷ []) $
    -- [the `&` to the allocator; the token of its lifetime; the other tokens]
    enter ! _ _ _ _ _ $ alloc_all ! (λ l. pass_all ! refl ((tt, tt), ((tt, record { fits = are.1.0.1 }), tt)) $
    sets ! (is ! (bin ! (get ! refl) (size_word !) (record { fits = omega (arith, product) })) (ap (vint w64) product)) refl (tt, record { fits = omega arith }) $
    let G = triple_of 𝓛 g.signature (g.spec 𝓛 𝓜.mem 𝓡.returns) in let al = capped (align (lone E.mir)) in
    let z : G.Ghost = (((κ, tt), (q, tt), tt, (r, (whole_size, (al, tt))), (vptr b o ∷ [], (vint w64 whole_size ∷ [], (vint w64 al ∷ [], tt)))), ty) in
    nothing ! $ flt_i ! al (2 ^ 64) (capped_fits (align (lone E.mir))) $ feq_i ! (List Val) (vint w64 al ∷ []) (vint w64 al ∷ []) refl $ fjoin ! $ fjoin ! $
    flt_i ! whole_size (2 ^ 64) (omega arith) $ feq_i ! (List Val) (vint w64 whole_size ∷ []) (vint w64 whole_size ∷ []) refl $ fjoin ! $ fjoin ! $
    move ! (1 ∷ 0 ∷ []) $ fjoin ! $ nothing ! $ move ! (2 ∷ 0 ∷ []) $ join ! $ join ! $
    use0 𝓛 (raw (fact 𝓤 (HasLayout ty whole_size al))) (fact_i 𝓤 (HasLayout ty whole_size al) (emp 𝓤) (block_layout (lone E.mir) capacity bytes)) $ move ! (1 ∷ 0 ∷ []) $ join ! $ use1 𝓛 (raw (G.pre z)) (id⊢ 𝓤 _) $
    calls_at ! (framed 𝓤 𝓛.H 𝓜 𝓣) G (met 𝓤 𝓛 𝓜 𝓡 (code.calls-std_heap::GlobalAllocator::allocate 𝓡.env wired)) z
    (and_then ! (get ! refl) (and_then ! (get ! refl) (and_then ! (align_word !) (no_more !)))) (λ v.
    use1 𝓛 (later (some (λ (u : Given.Denot). ((‵ (flft κ q) ⊛ ‵ ftrue) ⊛ ‵ (Given.own_val u (v ∷ []))) ⊛ some (λ (ws : Unit {0} × (Unit {0} × (Unit {0} × Unit {0}))). ‵ (lasts g.ended z.0.0 z.0.3 ws) ⊛ ‵ (block_if_ok (ghosts.dealloc_token r.now) ty u))))) (id⊢ 𝓤 _) $
    await ! tt $ pick ! (λ u. split ! $ split ! $ split ! $ move ! (3 ∷ []) $ pick ! (λ ws. split ! $ drop ! $ move ! (3 ∷ 0 ∷ []) $
    -- [what was answered; what comes with it; the token of the `&`'s lifetime; nothing; the other tokens]
    answered (ghosts.dealloc_token r.now) ty v ! u
    (λ bs os is. let h = empty_block bs os capacity r.now in let out = live 0 (of_list (word bs os capacity)) in
    lands_as ! is refl (tt, (record { fits = lit< tt }, (tt, tt))) $
    first ! $ switches_on ! (get_tag ! (vrt ! refl (fld ! refl (stop !))) (whole !)) $ exec ! 𝓣.C 𝓣.Λ (env F.locals l) (arm_body 0 (head (after 2 F.body))) (then_rest l) $
    sets ! (of_opd ! (get_in ! (vrt ! refl (fld ! refl (stop !))) (in_variant ! 0 0 refl refl (whole !)))) refl (tt, tt) $
    sets ! (of_opd ! (get ! refl)) refl (tt, tt) $
    sets ! (agg ! (and_then ! (get ! refl) (and_then ! (get ! refl) (no_more !)))) refl (tt, (tt, (record { fits = omega arith }, tt))) $
    sets_last ! (agg ! (and_then ! (lit ! tt) (and_then ! (get ! refl) (no_more !)))) refl (tt, (record { fits = lit< tt }, ((tt, (record { fits = omega arith }, tt)), tt))) $
    exec ! 𝓣.C 𝓣.Λ (env F.locals l) (after 3 F.body) (at_ret _ (W.post y)) $
    sets ! (of_opd ! (get ! refl)) refl (tt, (record { fits = lit< tt }, ((tt, (record { fits = omega arith }, tt)), tt))) $
    returns ! (look_at ! 0 refl) $ free_all ! refl $
    use2 𝓛 (‵ (B.own_val h (word bs os capacity))) (block_made 𝓛 E bs os capacity r.now small bytes) $
    use1 𝓛 (‵ ((Answer E).own_val (Ok h) (out ∷ []))) (ok_made 𝓛 E h (vstruct (vcons (vptr bs os) (vcons (vint w64 capacity) vnil)))) $ keep ! (0 ∷ 1 ∷ 3 ∷ []) $
    -- [the answer; the token of the `&`'s lifetime; the other tokens]
    suffices ! _ (ends_at 𝓛 ended stayed c y out (Ok h) (tt, (tt, tt)) (tt, (tt, tt))) $ says ! (refl, refl, refl) $
    nothing ! $ nothing ! $ fjoin ! $ nothing ! $ fjoin ! $ move ! (2 ∷ 3 ∷ []) $ join ! $ done !)
    (λ is. let out = live 1 (of_list (vstruct vnil ∷ [])) in
    lands_as ! is refl (tt, (record { fits = lit< tt }, (tt, tt))) $
    first ! $ switches_on ! (get_tag ! (vrt ! refl (fld ! refl (stop !))) (whole !)) $ exec ! 𝓣.C 𝓣.Λ (env F.locals l) (arm_body 1 (head (after 2 F.body))) (then_rest l) $
    sets ! (of_opd ! (get_in ! (vrt ! refl (fld ! refl (stop !))) (in_variant ! 1 0 refl refl (whole !)))) refl (tt, tt) $
    sets_last ! (agg ! (and_then ! (lit ! tt) (and_then ! (get ! refl) (no_more !)))) refl (tt, (record { fits = lit< tt }, (tt, tt))) $
    exec ! 𝓣.C 𝓣.Λ (env F.locals l) (after 3 F.body) (at_ret _ (W.post y)) $
    sets ! (of_opd ! (get ! refl)) refl (tt, (record { fits = lit< tt }, (tt, tt))) $
    returns ! (look_at ! 0 refl) $ free_all ! refl $ keep ! (0 ∷ 2 ∷ []) $
    use0 𝓛 (‵ ((Answer E).own_val (Err (record {})) (out ∷ []))) (err_made 𝓛 E) $
    suffices ! _ (ends_at 𝓛 ended stayed c y out (Err (record {})) (tt, (tt, tt)) (tt, (tt, tt))) $ says ! tt $
    nothing ! $ nothing ! $ fjoin ! $ nothing ! $ fjoin ! $ move ! (2 ∷ 3 ∷ []) $ join ! $ done !)))))))
