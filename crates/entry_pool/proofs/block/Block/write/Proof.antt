-- A place with nothing is written: its room is taken out from among the others, and put back with the value.
use Rattle.entry_pool.proofs.Steps.{◌≡◌, ◌+◌, ◌*◌, ◌<◌, [], ◌∷◌, length, refl, arith, w64, proved_at, fact, tables, ‵, raw, ◌⊛◌, ◌$◌, ◌∵◌, !, qed, ftrue, flft, named, a_type, dnil, inst_fn, usize, yes, bounded, param, uint_vals, uint_Tells, MutRef, mut_vals, mut_Tells, plain, Stays, walk_of, stay_dropped, Goes-dropped, stay_ref, Goes-ref, split, drop, heard, move}
use Rattle.std.proofs.Common.{subst, sym}
use Rattle.std.proofs.Common.{get_or, set, length-set, Some, None}
use Rattle.std.specs.Mem.{type_size}
use Rattle.entry_pool.proofs.Lent.{before_fits, one_fits}
use Rattle.entry_pool.proofs.Memory.{place_in, place_out}
use Rattle.entry_pool.specs.Owned.{place_parts, places}
use Rattle.entry_pool.proofs.Steps.{enter, of_opd, size_lit, unit_lit, bin, load, stop, fld, first, blocks, exec, returns, alloc_all, pass_all, free_all, look_at, get, through, sets, assigns_last, env, at_ret, after, suffices, says, ends_at, keep, use1, use2}
use types.Run.{init}
use types.Part.{whole, sub, look_in}
use base.Fml.{froom}
use mir.Raw.{raw as raw_ty}
use denote.Memory.{lone}
use Rattle.std.proofs.Common.{List}
use Rattle.entry_pool.proofs.Steps.{full_share, vunit, feq_i, fjoin, nothing, join, done}
use types.Kit.{fjoin3}
use mir.Val.{Val}
use denote.Memory.{part_at}
use denote.Index.{others}
use borrow.Table.OneValue.{part_in}
use Rattle.entry_pool.specs.Blocks.{with_items}
use base.Logic.{ent}
use prog.Wp.{WpFn}
use contract.BorrowLft.{◌⊑◌}
use denote.Exit.{no}
use denote.Param.Laws.{param_laws}
use denote.Triple.Entry.{Vals}
use Rattle.entry_pool.proofs.Memory.{one_value}
use Rattle.entry_pool.proofs.Opened.{opened, closed}
use Rattle.entry_pool.specs.contracts.block.Block.write as f
use Rattle.entry_pool.specs.contracts.block.Block.{the_row as R}
use Rattle.entry_pool.proofs.block.Block.write.Statement.{statement}
use Rattle.entry_pool.proofs.block.Block.write.Code as code

pub write_spec : {M : Type 1} → statement M
write_spec 𝓤 𝓛 𝓜 𝓡 wired T L =
    let ended = f.ended T in let c = f.clauses T 𝓛 𝓜.mem 𝓡.returns in
    let E = param 0 T in let B = R E in
    let word = plain (λ _. usize) in let item = plain (λ _. E) in
    let stayed : Stays ended.signature.params ended.kept = (stay_ref (0 ∷ []) tt (plain (λ _. B)), (stay_dropped word yes, (stay_dropped item no, tt))) in
    let W = walk_of 𝓛 ended stayed c in let 𝓣 = tables 𝓤 𝓛.H 𝓜 𝓡 𝓡.env in
    let args = bounded (a_type ∷ []) (T, tt) dnil in let F = inst_fn args code.function in
    proved_at 𝓛 ended stayed c 𝓜 𝓡
    (Goes-ref 𝓛 2 0 tt (plain (λ _. B)), (Goes-dropped 𝓛 2 word yes (λ κs x w. refl), (Goes-dropped 𝓛 2 item no (λ κs x w. refl), tt)))
    (f.Key.name args) F (code.unfolded 𝓤 𝓛.H 𝓜 𝓡 wired (T, tt))
    (λ y are.
    let κs = y.0.0 in let qs = y.0.1 in let a = y.0.3 in let κ = κs.0 in let q = qs.0 in
    let b = a.0.ref_ptr.0 in let o = a.0.ref_ptr.1 in let h = a.0.now in let at = a.1.0 in let x = a.1.1.0 in
    let told = one_value _ _ (((param_laws 0 T L).lawful 𝓛).typed x y.0.4.1.1.0 are.1.1.0) in let v = told.0 in
    let Words = Vals ended.signature κs in
    let at_words : Words → W.Ghost = λ us. ((κs, qs, y.0.2, a, us), y.1) in
    let us : Words = (mut_vals a.0, (uint_vals w64 at, (v ∷ [], tt))) in
    subst (λ (us : Words). ent 𝓤 (W.pre (at_words us)) (WpFn 𝓤 𝓛.H 𝓣.C 𝓣.Λ F (W.args (at_words us)) (W.post (at_words us))))
    (sym (λ i. (mut_Tells (named 0) κ B a.0 y.0.4.0 are.0 i, (uint_Tells w64 at y.0.4.1.0 are.1.0 i, (told.1.0 i, tt)))))
    (qed 𝓛 (((‵ (flft κ q) ⊛ ‵ (flft κs.1.0 qs.1.0) ⊛ ‵ ftrue)
    ⊛ ‵ ((MutRef (named 0) κ B).own_val a.0 (mut_vals a.0)) ⊛ ‵ (usize.own_val at (uint_vals w64 at)) ⊛ ‵ (E.own_val x (v ∷ [])) ⊛ ‵ ftrue)
    ∷ (raw (fact 𝓤 (κs.1.0 ⊑ T.lives)) ⊛ raw (fact 𝓤 ((at < length h.items) × (get_or h.items at None ≡ None)))) ∷ []) ∵
    move ! (1 ∷ []) $ split ! $ drop ! $ heard ! _ (λ given.
    let size = type_size E in let n = length h.items in let xs = set h.items at (Some x) in let off = at * size in
    split ! $ move ! (1 ∷ []) $ split ! $ move ! (1 ∷ []) $ split ! $ drop ! $ split ! $ move ! (3 ∷ []) $ split ! $ keep ! (4 ∷ 0 ∷ 1 ∷ 2 ∷ []) $
    -- [the `&mut`; the token of its lifetime; the other token; the value]
    enter ! _ _ _ _ _ $ alloc_all ! (λ l. pass_all ! refl ((tt, tt), ((tt, record { fits = are.1.0.1 }), (told.1.1, tt))) $
    opened E (named 0) κ q a.0 ! tt (param_laws 0 T L) (λ bs os e bytes few.
    let small = one_fits h.capacity size at n bytes few given.0 in let below = before_fits h.capacity size at n bytes few given.0 in
    use1 𝓛 (‵ (froom (raw_ty (lone E.mir)) bs (off + os)) ⊛ ‵ (others (place_parts E) full_share h.items at bs os)) (place_out 𝓛 E h.items at None bs os given.0 given.1) $ split ! $
    use1 𝓛 (‵ (froom (lone E.mir) bs (off + os))) (𝓛.laws.raw-room (lone E.mir) bs (off + os)) $
    -- [the place to write; the other places; ..; the block's cell; ..; the other token; the value; the locals]
    first ! $ blocks ! $
    sets ! (of_opd ! (load ! (through ! refl (fld ! refl (stop !))) (look_in ! 4 (sub ! 0 refl (whole !))))) refl (tt, tt) $
    sets ! (bin ! (get ! refl) (size_lit ! (record { fits = omega arith })) (record { fits = omega arith })) refl (tt, record { fits = omega arith }) $
    sets ! (bin ! (get ! refl) (get ! refl) tt) refl (tt, tt) $
    sets ! (of_opd ! (get ! refl)) refl told.1.1 $
    assigns_last ! (of_opd ! (get ! refl)) (through ! refl (stop !)) (init ! 0 refl told.1.1) $
    exec ! 𝓣.C 𝓣.Λ (env F.locals l) (after 1 F.body) (at_ret _ (W.post (at_words us))) $
    sets ! (of_opd ! (unit_lit !)) refl (tt, tt) $
    move ! (0 ∷ 9 ∷ []) $ use2 𝓛 (‵ (part_at E full_share x bs (off + os))) (part_in 𝓛 E refl full_share x bs (off + os) v) $
    use2 𝓛 (‵ (places E xs bs os)) (place_in 𝓛 E h.items at (Some x) bs os given.0) $
    closed E (named 0) κ q a.0 ! tt xs bs os e bytes (omega (arith, few, length-set h.items at (Some x))) $
    returns ! (look_at ! 0 refl) $ free_all ! refl $
    -- [two parts of the `&mut`; the token of its lifetime; the other token]
    suffices ! _ (ends_at 𝓛 ended stayed c (at_words us) vunit tt (with_items h xs, (tt, (tt, tt))) (tt, (tt, (tt, tt)))) $ says ! refl $
    feq_i ! (List Val) (mut_vals a.0) (mut_vals a.0) refl $ fjoin3 ! $ nothing ! $ nothing ! $ fjoin ! $ nothing ! $ fjoin ! $ move ! (1 ∷ 0 ∷ []) $ fjoin ! $
    feq_i ! (List Val) (vunit ∷ []) (vunit ∷ []) refl $ move ! (2 ∷ 3 ∷ 1 ∷ 0 ∷ []) $ join ! $ done !)))))
