-- A `&` to a written value: the pointer is read through the `&` to the block, and what is lent of the value goes out.
use Rattle.entry_pool.proofs.Steps.{◌+◌, ◌*◌, [], ◌∷◌, length, refl, arith, w64, proved, fact, tables, ‵, raw, ◌⊛◌, ◌$◌, ◌∵◌, !, qed, ftrue, flft, named, a_type, dnil, inst_fn, usize, yes, bounded, param, uint_vals, uint_Tells, ShrRef, shr_vals, shr_Tells, plain, shr_ref_to, Stays, walk_of, stay_dropped, Goes-dropped, split, drop, heard, move}
use Rattle.entry_pool.proofs.Steps.{RawPtr, block_of, count_of, InBlock, use1, keep, fsplit, flt_l}
use contract.BorrowLft.{◌⊑◌}
use denote.RawPtr.{ptr_row_laws}
use denote.SharingLaws.{contraction}
use Rattle.std.proofs.Words.{pointer_in, pointer_out}
use Rattle.std.proofs.Common.{List, get_or, Some, None, IsSome}
use mir.Val.{Val}
use Rattle.entry_pool.proofs.Lent.{before_fits, one_fits}
use Rattle.entry_pool.proofs.Steps.{vptr, feq_i, fjoin, nothing, join, done, enter, of_opd, size_lit, bin, addr, load, look, stop, fld, first, blocks, exec, returns, alloc_all, pass_all, free_all, look_at, get, through, sets, sets_last, env, at_ret, after, suffices, says, ends_at}
use denote.Memory.{hidden_shr}
use denote.Struct.Lending.{in_block_says}
use Rattle.std.specs.Mem.{type_size}
use Rattle.entry_pool.specs.Owned.{block_lends, place_lent}
use Rattle.entry_pool.proofs.Lent.{held_at, item_lent, lent_parts}
use Rattle.entry_pool.specs.contracts.block.Block.get as f
use Rattle.entry_pool.specs.contracts.block.Block.{the_row as R}
use Rattle.entry_pool.proofs.block.Block.get.Statement.{statement}
use Rattle.entry_pool.proofs.block.Block.get.Code as code

pub get_spec : {M : Type 1} → statement M
get_spec 𝓤 𝓛 𝓜 𝓡 wired T L =
    let ended = f.ended T in let c = f.clauses T 𝓛 𝓜.mem 𝓡.returns in
    let B = R (param 0 T) in
    let self = shr_ref_to (0 ∷ []) tt (plain (λ _. B)) in let word = plain (λ _. usize) in
    let stayed : Stays ended.signature.params ended.kept = (stay_dropped self yes, (stay_dropped word yes, tt)) in
    let W = walk_of 𝓛 ended stayed c in let 𝓣 = tables 𝓤 𝓛.H 𝓜 𝓡 𝓡.env in
    let args = bounded (a_type ∷ []) (T, tt) dnil in
    proved 𝓛 ended stayed c 𝓜 𝓡
    (Goes-dropped 𝓛 2 self yes (λ κs x w. refl), (Goes-dropped 𝓛 2 word yes (λ κs x w. refl), tt))
    (f.Key.name args) (inst_fn args code.function) (code.unfolded 𝓤 𝓛.H 𝓜 𝓡 wired (T, tt))
    (λ κs. (shr_vals, (uint_vals w64, tt))) (λ κs. (shr_Tells (named 0) κs.0 B, (uint_Tells w64, tt))) (λ κs qs bounds a _ are.
    qed 𝓛 (((‵ (flft κs.0 qs.0) ⊛ ‵ (flft κs.1.0 qs.1.0) ⊛ ‵ ftrue)
    ⊛ ‵ ((ShrRef (named 0) κs.0 B).own_val a.0 (shr_vals a.0)) ⊛ ‵ (usize.own_val a.1.0 (uint_vals w64 a.1.0)) ⊛ ‵ ftrue)
    ∷ (raw (fact 𝓤 (κs.1.0 ⊑ T.lives)) ⊛ raw (fact 𝓤 (IsSome (get_or a.0.now.items a.1.0 None)))) ∷ []) ∵
    move ! (1 ∷ []) $ split ! $ drop ! $ heard ! _ (λ full.
    let h = a.0.now in let at = a.1.0 in let b = a.0.ref_ptr.0 in let o = a.0.ref_ptr.1 in let κ = κs.0 in let E = param 0 T in let size = type_size E in
    let found = held_at h.items at full in let inside = found.within in let x = found.value in
    split ! $ move ! (1 ∷ []) $ split ! $ move ! (2 ∷ []) $ split ! $ keep ! (2 ∷ 0 ∷ 1 ∷ []) $ fsplit ! $ drop ! $
    -- [what lies behind the `&`; the token of its lifetime; the other tokens]
    use1 𝓛 (‵ (hidden_shr RawPtr κ h.start b (o + 0)) ⊛ ‵ (block_lends E h.start h.capacity h.items κ)) (lent_parts 𝓛 E κ h b o) $ split ! $ move ! (1 ∷ []) $
    fsplit ! $ fsplit ! $ flt_l ! (λ bytes. flt_l ! (λ few. fsplit ! $ use1 𝓛 (raw (fact 𝓤 (InBlock h.start))) (in_block_says 𝓛 h.start) $ heard ! _ (λ inb.
    let bs = block_of h.start in let os = count_of h.start in
    use1 𝓛 (‵ (hidden_shr E κ x bs (at * size + os))) (item_lent 𝓛 (place_lent E) size h.items at (Some x) None bs os κ inside found.is) $
    let F = inst_fn args code.function in let y : W.Ghost = ((κs, qs, bounds, a, (shr_vals a.0, (uint_vals w64 at, tt))), tt) in
    let small = one_fits h.capacity size at (length h.items) bytes few inside in let below = before_fits h.capacity size at (length h.items) bytes few inside in
    enter ! _ _ _ _ _ $ alloc_all ! (λ l. pass_all ! refl ((tt, tt), ((tt, record { fits = are.1.0.1 }), tt)) $
    first ! $ blocks ! $ move ! (1 ∷ 2 ∷ []) $
    pointer_in ! tt h.start inb b (o + 0) (contraction 𝓛 (RawPtr.shr_at h.start b (o + 0)) (ptr_row_laws h.start b (o + 0)) κ) (λ q'.
    -- [nothing; the pointer's word; its way back; the `&` to it; the `&` to the value; the other tokens; the locals]
    sets ! (of_opd ! (load ! (through ! refl (fld ! refl (stop !))) (look ! 1 refl))) refl (tt, tt) $
    pointer_out ! tt h.start inb b (o + 0) $
    sets ! (bin ! (get ! refl) (size_lit ! (record { fits = omega arith })) (record { fits = omega arith })) refl (tt, record { fits = omega arith }) $
    sets ! (bin ! (get ! refl) (get ! refl) tt) refl (tt, tt) $
    sets_last ! (addr ! (through ! refl (stop !))) refl (tt, tt) $
    exec ! 𝓣.C 𝓣.Λ (env F.locals l) (after 1 F.body) (at_ret _ (W.post y)) $
    sets ! (of_opd ! (get ! refl)) refl (tt, tt) $
    returns ! (look_at ! 0 refl) $ free_all ! refl $ keep ! (2 ∷ 0 ∷ 3 ∷ []) $
    suffices ! _ (ends_at 𝓛 ended stayed c y (vptr bs (at * size + os)) (record { ref_ptr = (bs, at * size + os); now = x }) (tt, (tt, tt)) (tt, (tt, tt))) $ says ! found.is $
    feq_i ! (List Val) (vptr bs (at * size + os) ∷ []) (vptr bs (at * size + os) ∷ []) refl $ fjoin ! $
    nothing ! $ nothing ! $ fjoin ! $ nothing ! $ fjoin ! $ move ! (2 ∷ 3 ∷ []) $ join ! $ done !)))))))
