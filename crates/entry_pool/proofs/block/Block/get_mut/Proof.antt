-- A value is lent from among the others: with any value in its place they are a block again.
use Rattle.entry_pool.proofs.Steps.{◌+◌, ◌*◌, [], ◌∷◌, length, refl, arith, w64, proved, fact, tables, ‵, raw, ◌⊛◌, ◌$◌, ◌∵◌, !, qed, ftrue, flft, named, a_type, dnil, inst_fn, usize, yes, bounded, param, uint_vals, uint_Tells, MutRef, mut_vals, mut_Tells, plain, mut_ref_to, Stays, walk_of, stay_dropped, Goes-dropped, split, drop, heard, move}
use Rattle.std.specs.Mem.{type_size}
use Rattle.entry_pool.proofs.Lent.{before_fits, one_fits}
use Rattle.entry_pool.proofs.Memory.{place_out}
use Rattle.entry_pool.specs.Owned.{place_parts}
use Rattle.entry_pool.proofs.Steps.{enter, of_opd, size_lit, bin, load, stop, fld, first, blocks, exec, returns, alloc_all, pass_all, free_all, look_at, get, through, sets, sets_last, env, at_ret, after, suffices, says, ends_at, keep, use1}
use types.Part.{whole, sub, look_in}
use Rattle.entry_pool.proofs.Steps.{full_share, fjoin, nothing, join, done}
use denote.Memory.{part_at}
use denote.Index.{others}
use Rattle.std.proofs.Common.{get_or, set, Some, None, IsSome}
use Rattle.entry_pool.proofs.Lent.{held_at}
use Rattle.entry_pool.proofs.Steps.{some, pick}
use Rattle.entry_pool.specs.Blocks.{with_items}
use contract.BorrowLft.{◌⊑◌}
use denote.Triple.Walked.{Goes-spent_ref}
use denote.Follow.{follows, lends_Part}
use Rattle.entry_pool.proofs.Opened.{lent_back, without_item}
use Rattle.entry_pool.proofs.Steps.{addr, later, await, group, frame, vptr}
use types.Kit.{split3, ⋆}
use denote.Exit.{no}
use denote.Param.Laws.{param_laws}
use Rattle.entry_pool.proofs.Opened.{opened}
use Rattle.entry_pool.specs.contracts.block.Block.get_mut as f
use Rattle.entry_pool.specs.contracts.block.Block.{the_row as R}
use Rattle.entry_pool.proofs.block.Block.get_mut.Statement.{statement}
use Rattle.entry_pool.proofs.block.Block.get_mut.Code as code

pub get_mut_spec : {M : Type 1} → statement M
get_mut_spec 𝓤 𝓛 𝓜 𝓡 wired T L =
    let ended = f.ended T in let c = f.clauses T 𝓛 𝓜.mem 𝓡.returns in
    let E = param 0 T in let B = R E in let word = plain (λ _. usize) in let self = mut_ref_to (0 ∷ []) tt (plain (λ _. B)) in
    let stayed : Stays ended.signature.params ended.kept = (stay_dropped self no, (stay_dropped word yes, tt)) in
    let W = walk_of 𝓛 ended stayed c in let 𝓣 = tables 𝓤 𝓛.H 𝓜 𝓡 𝓡.env in
    let args = bounded (a_type ∷ []) (T, tt) dnil in let F = inst_fn args code.function in
    proved 𝓛 ended stayed c 𝓜 𝓡
    (Goes-spent_ref 𝓛 2 (0 ∷ []) tt (plain (λ _. B)), (Goes-dropped 𝓛 2 word yes (λ κs x w. refl), tt))
    (f.Key.name args) F (code.unfolded 𝓤 𝓛.H 𝓜 𝓡 wired (T, tt))
    (λ κs. (mut_vals, (uint_vals w64, tt))) (λ κs. (mut_Tells (named 0) κs.0 B, (uint_Tells w64, tt))) (λ κs qs bounds a _ are.
    let κ = κs.0 in let q = qs.0 in let h = a.0.now in let at = a.1.0 in let b = a.0.ref_ptr.0 in let o = a.0.ref_ptr.1 in let γ = a.0.ghost_name in
    let y : W.Ghost = ((κs, qs, bounds, a, (mut_vals a.0, (uint_vals w64 at, tt))), tt) in
    qed 𝓛 (((‵ (flft κ q) ⊛ ‵ (flft κs.1.0 qs.1.0) ⊛ ‵ ftrue)
    ⊛ ‵ ((MutRef (named 0) κ B).own_val a.0 (mut_vals a.0)) ⊛ ‵ (usize.own_val at (uint_vals w64 at)) ⊛ ‵ ftrue)
    ∷ (raw (fact 𝓤 (κs.1.0 ⊑ T.lives)) ⊛ raw (fact 𝓤 (IsSome (get_or h.items at None)))) ∷ []) ∵
    move ! (1 ∷ []) $ split ! $ drop ! $ heard ! _ (λ full.
    let size = type_size E in let n = length h.items in let found = held_at h.items at full in let within = found.within in let x = found.value in let off = at * size in
    split ! $ move ! (1 ∷ []) $ split ! $ move ! (2 ∷ []) $ split ! $ keep ! (2 ∷ 0 ∷ 1 ∷ []) $
    -- [the `&mut`; the token of its lifetime; the other token]
    enter ! _ _ _ _ _ $ alloc_all ! (λ l. pass_all ! refl ((tt, tt), ((tt, record { fits = are.1.0.1 }), tt)) $
    opened E (named 0) κ q a.0 ! tt (param_laws 0 T L) (λ bs os e bytes few.
    let small = one_fits h.capacity size at n bytes few within in let below = before_fits h.capacity size at n bytes few within in
    use1 𝓛 (‵ (part_at E full_share x bs (off + os)) ⊛ ‵ (others (place_parts E) full_share h.items at bs os)) (place_out 𝓛 E h.items at (Some x) bs os within found.is) $ split ! $
    -- [the value; the other places; ..; the block's cell; ..; the other token; the locals]
    first ! $ blocks ! $
    sets ! (of_opd ! (load ! (through ! refl (fld ! refl (stop !))) (look_in ! 4 (sub ! 0 refl (whole !))))) refl (tt, tt) $
    sets ! (bin ! (get ! refl) (size_lit ! (record { fits = omega arith })) (record { fits = omega arith })) refl (tt, record { fits = omega arith }) $
    sets ! (bin ! (get ! refl) (get ! refl) tt) refl (tt, tt) $
    sets_last ! (addr ! (through ! refl (stop !))) refl (tt, tt) $
    exec ! 𝓣.C 𝓣.Λ (env F.locals l) (after 1 F.body) (at_ret _ (W.post y)) $
    sets ! (of_opd ! (get ! refl)) refl (tt, tt) $
    move ! (5 ∷ 6 ∷ 7 ∷ 0 ∷ 1 ∷ 2 ∷ 3 ∷ 4 ∷ []) $ group ! 8 $
    use1 𝓛 (later (some (λ (γ' : _). ‵ ((MutRef (named 0) κ E).own_val (record { ref_ptr = (bs, off + os); ghost_name = γ'; now = x }) (vptr bs (off + os) ∷ [])) ⊛ ‵ (flft κ q) ⊛ ‵ (follows B E γ γ' (λ w. with_items h (set h.items at (Some w)))))))
    (lends_Part 𝓛 B E (λ w. with_items h (set h.items at (Some w))) (named 0) κ q b o bs (off + os) γ (⋆ 𝓛 (without_item 𝓤 E h at b o bs os)) (λ w. lent_back 𝓛 E h at w b o bs os e bytes few within) (B.coded.code h) (B.coded.code h) x) $ await ! tt $ pick ! (λ γ'. split3 ! $
    returns ! (look_at ! 0 refl) $ free_all ! refl $
    -- [the `&mut` to the value; the token of its lifetime; what the block ends as; the other token]
    suffices ! _ (ends_at 𝓛 ended stayed c y (vptr bs (off + os)) (record { ref_ptr = (bs, off + os); ghost_name = γ'; now = x }) (tt, (tt, tt)) (tt, (tt, tt))) $
    nothing ! $ nothing ! $ fjoin ! $ nothing ! $ fjoin ! $ move ! (2 ∷ 4 ∷ 0 ∷ 1 ∷ 3 ∷ []) $ join ! $ group ! 3 $ frame ! $ says ! found.is $ done !)))))
