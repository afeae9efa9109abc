-- The room of a block with nothing goes back to the allocator, with the right to free it.
use Rattle.entry_pool.proofs.Steps.{◌≡◌, ◌*◌, [], ◌∷◌, refl, arith, w64, proved, fact, tables, ‵, raw, ◌⊛◌, ◌$◌, ◌∵◌, !, qed, ftrue, flft, named, a_type, dnil, inst_fn, yes, bounded, param, ShrRef, shr_vals, shr_Tells, plain, shr_ref_to, Stays, walk_of, stay_dropped, Goes-dropped, split, drop, heard, move}
use Rattle.std.proofs.Common.{List, replicate, Option, None}
use contract.BorrowLft.{◌⊑◌}
use base.Fml.{froom}
use prog.Wp.{WpFn}
use denote.RawPtr.{Ptr, ptr_val}
use mir.Val.{vstruct, vcons, vnil}
use denote.Triple.Entry.{Vals}
use types.Part.{whole, sub}
use types.ByLocal.{get_in}
use Rattle.std.specs.Mem.{type_size}
use Rattle.std.specs.Allocator.{array_of}
use Rattle.std.specs.contracts.impls.GlobalAllocator.TheImpl.{ghosts}
use Rattle.entry_pool.proofs.Memory.{apart, capped_product, rooms_in}
use Rattle.entry_pool.specs.Owned.{places}
use Rattle.entry_pool.proofs.Steps.{vint, vptr, keep, fsplit, fjoin, rewrite, regoal, prop, enter, of_opd, bin, stop, fld, first, blocks, exec, returns, alloc_all, pass_all, free_all, look_at, get, sets, env, at_ret, after, suffices, ends_at}
use Rattle.std.proofs.Common.{ap}
use types.Run.{size_word}
use types.ByLocal.{is}
use prog.Memory.{align, capped}
use denote.Memory.{lone}
use denote.RawPtr.{block_ptr}
use Rattle.entry_pool.proofs.Steps.{use1}
use Rattle.std.proofs.Common.{◌^◌}
use mir.Val.{Val}
use prog.Capped.{capped_fits}
use contract.Monad.{fact_i}
use base.Logic.{emp, id⊢}
use types.Run.{align_word}
use denote.Triple.Call.{calls_at_last}
use denote.Triple.Table.{framed}
use denote.Triple.Clauses.{lasts}
use Rattle.std.specs.Allocator.{HasLayout}
use Rattle.entry_pool.proofs.Memory.{block_layout}
use Rattle.entry_pool.proofs.Steps.{use0, join, nothing, flt_i, feq_i, feq_l, some, later, await, pick, and_then, no_more, unit}
use Rattle.std.proofs.Common.{subst, sym}
use mir.Syntax.{ty_unit}
use mir.Val.{WT, has_ty}
use lib.Dec.{T}
use types.ByLocal.{lands_last}
use Rattle.entry_pool.proofs.Steps.{unit_lit, vunit, group, done, only}
use Rattle.std.proofs.alloc.Calls.{Goes-blank}
use denote.Param.Laws.{param_laws}
use denote.Triple.Spec.{triple_of}
use Rattle.std.specs.declared.alloc.Global.{Global}
use Rattle.std.specs.contracts.alloc.Global.{the_row as heap}
use Rattle.std.specs.contracts.impls.GlobalAllocator.deallocate as g
use Rattle.std.proofs.impls.GlobalAllocator.deallocate.Met.{met}
use Rattle.entry_pool.specs.contracts.block.Block.free as f
use Rattle.entry_pool.specs.contracts.block.Block.{the_row as R}
use Rattle.entry_pool.proofs.block.Block.TheLaws.{lowers, the_row_laws}
use Rattle.entry_pool.proofs.block.Block.free.Statement.{statement}
use Rattle.entry_pool.proofs.block.Block.free.Code as code

pub free_spec : {M : Type 1} → statement M
free_spec 𝓤 𝓛 𝓜 𝓡 wired T₀ L =
    let ended = f.ended T₀ in let c = f.clauses T₀ 𝓛 𝓜.mem 𝓡.returns in
    let E = param 0 T₀ in let B = R E in let low = lowers E (param_laws 0 T₀ L) in
    let alloc = shr_ref_to (0 ∷ []) tt (plain (λ _. heap)) in
    let stayed : Stays ended.signature.params ended.kept = (stay_dropped (plain (λ _. B)) ended.kept.0, (stay_dropped alloc yes, tt)) in
    let W = walk_of 𝓛 ended stayed c in let 𝓣 = tables 𝓤 𝓛.H 𝓜 𝓡 𝓡.env in
    let args = bounded (a_type ∷ []) (T₀, tt) dnil in let F = inst_fn args code.function in
    proved 𝓛 ended stayed c 𝓜 𝓡
    (Goes-blank 𝓛 2 (plain (λ _. B)) ended.kept.0 (λ κs x w. tt), (Goes-dropped 𝓛 2 alloc yes (λ κs x w. refl), tt))
    (f.Key.name args) F (code.unfolded 𝓤 𝓛.H 𝓜 𝓡 wired (T₀, tt))
    (λ κs. (λ h. low.lowered h ∷ [], (shr_vals, tt))) (λ κs. (low.val_is, (shr_Tells (named 0) κs.0 heap, tt))) (λ κs qs bounds a _ are.
    let h = a.0 in let κ = κs.0 in let q = qs.0 in let r = a.1.0 in let b = r.ref_ptr.0 in let o = r.ref_ptr.1 in
    let whole_size = h.capacity * type_size E in let ty = array_of E h.capacity in
    let words : Vals ended.signature κs = (low.lowered h ∷ [], (shr_vals r, tt)) in
    let y : W.Ghost = ((κs, qs, bounds, a, words), tt) in
    qed 𝓛 (((‵ (flft κ q) ⊛ ‵ (flft κs.1.0 qs.1.0) ⊛ ‵ ftrue) ⊛ ‵ (B.own_val h (low.lowered h ∷ [])) ⊛ ‵ ((ShrRef (named 0) κ heap).own_val r (shr_vals r)) ⊛ ‵ ftrue)
    ∷ (raw (fact 𝓤 (κs.1.0 ⊑ T₀.lives)) ⊛ raw (fact 𝓤 ((h.alloc ≡ r.now) × (h.items ≡ replicate h.capacity None)))) ∷ []) ∵
    move ! (1 ∷ []) $ split ! $ drop ! $ heard ! _ (λ given.
    split ! $ split ! $ move ! (2 ∷ []) $ split ! $ move ! (1 ∷ []) $ split ! $ keep ! (2 ∷ 0 ∷ 3 ∷ 4 ∷ []) $ fsplit ! $ drop ! $
    let word = (((the_row_laws E (param_laws 0 T₀ L)).lawful 𝓛).typed h _ are.0).0.1.1.0 in
    -- [what the block owns; the `&` to the allocator; the token of its lifetime; the other tokens]
    apart E (ghosts.dealloc_token h.alloc) h.start h.capacity ! h.items (λ bs os e bytes few. let product = capped_product h.capacity (type_size E) bytes in
    rewrite ! 0 (λ (xs : List (Option E.Denot)). ‵ (places E xs bs os)) given.1 refl $ use1 𝓛 (‵ (froom ty bs os)) (rooms_in 𝓛 E h.capacity bs os) $
    rewrite ! 1 (λ (z : Global). ‵ (ghosts.dealloc_token z ty h.start)) given.0 refl $
    rewrite ! 1 (λ (p : Ptr). ‵ (ghosts.dealloc_token r.now ty p)) e refl $ fjoin ! $
    regoal ! (λ (p : Ptr). prop (WpFn 𝓤 𝓛.H 𝓣.C 𝓣.Λ F (vstruct (vcons (ptr_val p) (vcons (vint w64 h.capacity) vnil)) ∷ vptr b o ∷ []) (W.post y))) e refl $
    enter ! _ _ _ _ _ $ alloc_all ! (λ l. pass_all ! refl ((tt, (tt, (word, tt))), ((tt, tt), tt)) $
    sets ! (of_opd ! (get_in ! (fld ! refl (stop !)) (sub ! 0 refl (whole !)))) refl (tt, tt) $
    sets ! (of_opd ! (get_in ! (fld ! refl (stop !)) (sub ! 1 refl (whole !)))) refl (tt, word) $
    first ! $ blocks ! $
    sets ! (of_opd ! (get ! refl)) refl (tt, tt) $
    sets ! (is ! (bin ! (get ! refl) (size_word !) (record { fits = omega (arith, product) })) (ap (vint w64) product)) refl (tt, record { fits = omega arith }) $
    let G = triple_of 𝓛 g.signature (g.spec 𝓛 𝓜.mem 𝓡.returns) in let al = capped (align (lone E.mir)) in
    let z : G.Ghost = (((κ, tt), (q, tt), tt, (r, (block_ptr bs os, (whole_size, (al, tt)))), (vptr b o ∷ [], (vptr bs os ∷ [], (vint w64 whole_size ∷ [], (vint w64 al ∷ [], tt))))), ty) in
    use0 𝓛 (raw (fact 𝓤 (HasLayout ty whole_size al))) (fact_i 𝓤 (HasLayout ty whole_size al) (emp 𝓤) (block_layout (lone E.mir) h.capacity bytes)) $ join ! $
    nothing ! $ flt_i ! al (2 ^ 64) (capped_fits (align (lone E.mir))) $ feq_i ! (List Val) (vint w64 al ∷ []) (vint w64 al ∷ []) refl $ fjoin ! $ fjoin ! $
    flt_i ! whole_size (2 ^ 64) (omega arith) $ feq_i ! (List Val) (vint w64 whole_size ∷ []) (vint w64 whole_size ∷ []) refl $ fjoin ! $ fjoin ! $
    feq_i ! (List Val) (vptr bs os ∷ []) (vptr bs os ∷ []) refl $ fjoin ! $ move ! (2 ∷ 0 ∷ []) $ fjoin ! $
    nothing ! $ move ! (3 ∷ 0 ∷ []) $ join ! $ join ! $ join ! $ use1 𝓛 (raw (G.pre z)) (id⊢ 𝓤 _) $
    calls_at_last ! (framed 𝓤 𝓛.H 𝓜 𝓣) G (met 𝓤 𝓛 𝓜 𝓡 (code.calls-std_heap::GlobalAllocator::deallocate 𝓡.env wired)) z
    (and_then ! (get ! refl) (and_then ! (get ! refl) (and_then ! (get ! refl) (and_then ! (align_word !) (no_more !))))) (λ v.
    use1 𝓛 (later (some (λ (u : Unit {0}). ((‵ (flft κ q) ⊛ ‵ ftrue) ⊛ ‵ (unit.own_val u (v ∷ []))) ⊛ some (λ (ws : Unit {0} × (Unit {0} × (Unit {0} × (Unit {0} × Unit {0})))). ‵ (lasts g.ended z.0.0 z.0.3 ws) ⊛ ‵ ftrue)))) (id⊢ 𝓤 _) $
    await ! tt $ pick ! (λ u. split ! $ split ! $ split ! $ move ! (2 ∷ []) $ feq_l ! (λ is_unit.
    lands_last ! refl (subst (λ (w : Val). T (has_ty ty_unit w) × WT w) (sym (ap only is_unit)) (tt, tt)) $
    exec ! 𝓣.C 𝓣.Λ (env F.locals l) (after 3 F.body) (at_ret _ (W.post y)) $
    sets ! (of_opd ! (unit_lit !)) refl (tt, tt) $
    returns ! (look_at ! 0 refl) $ free_all ! refl $ keep ! (0 ∷ 3 ∷ []) $ join ! $
    suffices ! _ (ends_at 𝓛 ended stayed c y vunit tt (tt, (tt, tt)) (tt, (tt, tt))) $
    feq_i ! (List Val) (vunit ∷ []) (vunit ∷ []) refl $ nothing ! $ nothing ! $ fjoin ! $ nothing ! $ fjoin ! $ move ! (2 ∷ 0 ∷ 1 ∷ []) $ group ! 3 $ nothing ! $ move ! (1 ∷ 0 ∷ []) $ done !)))))))
