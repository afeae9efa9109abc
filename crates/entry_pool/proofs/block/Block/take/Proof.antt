-- A value is taken out: its place is room among the others.
use Rattle.entry_pool.proofs.Steps.{◌+◌, ◌*◌, [], ◌∷◌, length, refl, arith, w64, proved, fact, tables, ‵, raw, ◌⊛◌, ◌$◌, ◌∵◌, !, qed, ftrue, flft, named, a_type, dnil, inst_fn, usize, yes, bounded, param, uint_vals, uint_Tells, MutRef, mut_vals, mut_Tells, plain, Stays, walk_of, stay_dropped, Goes-dropped, stay_ref, Goes-ref, split, drop, heard, move}
use Rattle.std.proofs.Common.{get_or, set, length-set, Option, Some, None, IsSome}
use Rattle.std.specs.Mem.{type_size}
use Rattle.entry_pool.proofs.Lent.{before_fits, held_at, one_fits}
use Rattle.entry_pool.proofs.Memory.{place_in, place_out}
use Rattle.entry_pool.specs.Owned.{place_parts, places}
use Rattle.entry_pool.proofs.Steps.{enter, of_opd, size_lit, bin, load, stop, fld, first, blocks, exec, returns, alloc_all, pass_all, free_all, look_at, get, through, sets, sets_last, env, at_ret, after, suffices, says, ends_at, keep, use1, use2}
use types.Run.{forget}
use types.Part.{whole, sub, look_in}
use denote.Memory.{lone}
use Rattle.std.proofs.Common.{List}
use Rattle.entry_pool.proofs.Steps.{full_share, feq_i, fjoin, nothing, join, done}
use types.Kit.{fjoin3}
use mir.Val.{Val}
use denote.Memory.{part_at}
use denote.Index.{others}
use base.Fml.{fat, froom}
use mir.Raw.{raw as raw_ty}
use borrow.Table.OneValue.{part_out}
use Rattle.entry_pool.proofs.Steps.{some, pick, well_typed, look}
use Rattle.entry_pool.specs.Blocks.{with_items}
use contract.BorrowLft.{◌⊑◌}
use denote.Param.Laws.{param_laws}
use Rattle.entry_pool.proofs.Opened.{opened, closed}
use Rattle.entry_pool.specs.contracts.block.Block.take as f
use Rattle.entry_pool.specs.contracts.block.Block.{the_row as R}
use Rattle.entry_pool.proofs.block.Block.take.Statement.{statement}
use Rattle.entry_pool.proofs.block.Block.take.Code as code

pub take_spec : {M : Type 1} → statement M
take_spec 𝓤 𝓛 𝓜 𝓡 wired T L =
    let ended = f.ended T in let c = f.clauses T 𝓛 𝓜.mem 𝓡.returns in
    let E = param 0 T in let B = R E in let word = plain (λ _. usize) in
    let stayed : Stays ended.signature.params ended.kept = (stay_ref (0 ∷ []) tt (plain (λ _. B)), (stay_dropped word yes, tt)) in
    let W = walk_of 𝓛 ended stayed c in let 𝓣 = tables 𝓤 𝓛.H 𝓜 𝓡 𝓡.env in
    let args = bounded (a_type ∷ []) (T, tt) dnil in let F = inst_fn args code.function in
    proved 𝓛 ended stayed c 𝓜 𝓡
    (Goes-ref 𝓛 2 0 tt (plain (λ _. B)), (Goes-dropped 𝓛 2 word yes (λ κs x w. refl), tt))
    (f.Key.name args) F (code.unfolded 𝓤 𝓛.H 𝓜 𝓡 wired (T, tt))
    (λ κs. (mut_vals, (uint_vals w64, tt))) (λ κs. (mut_Tells (named 0) κs.0 B, (uint_Tells w64, tt))) (λ κs qs bounds a _ are.
    let κ = κs.0 in let q = qs.0 in let h = a.0.now in let at = a.1.0 in
    let y : W.Ghost = ((κs, qs, bounds, a, (mut_vals a.0, (uint_vals w64 at, tt))), tt) in
    qed 𝓛 (((‵ (flft κ q) ⊛ ‵ (flft κs.1.0 qs.1.0) ⊛ ‵ ftrue)
    ⊛ ‵ ((MutRef (named 0) κ B).own_val a.0 (mut_vals a.0)) ⊛ ‵ (usize.own_val at (uint_vals w64 at)) ⊛ ‵ ftrue)
    ∷ (raw (fact 𝓤 (κs.1.0 ⊑ T.lives)) ⊛ raw (fact 𝓤 (IsSome (get_or h.items at None)))) ∷ []) ∵
    move ! (1 ∷ []) $ split ! $ drop ! $ heard ! _ (λ full.
    let size = type_size E in let off = at * size in let found = held_at h.items at full in let within = found.within in let n = length h.items in let x = found.value in let xs : List (Option E.Denot) = set h.items at None in
    split ! $ move ! (1 ∷ []) $ split ! $ move ! (2 ∷ []) $ split ! $ keep ! (2 ∷ 0 ∷ 1 ∷ []) $
    -- [the `&mut`; the token of its lifetime; the other token]
    enter ! _ _ _ _ _ $ alloc_all ! (λ l. pass_all ! refl ((tt, tt), ((tt, record { fits = are.1.0.1 }), tt)) $
    opened E (named 0) κ q a.0 ! tt (param_laws 0 T L) (λ bs os e bytes few.
    let small = one_fits h.capacity size at n bytes few within in let below = before_fits h.capacity size at n bytes few within in
    use1 𝓛 (‵ (part_at E full_share x bs (off + os)) ⊛ ‵ (others (place_parts E) full_share h.items at bs os)) (place_out 𝓛 E h.items at (Some x) bs os within found.is) $ split ! $
    use1 𝓛 (some (λ (u : Val). ‵ (fat full_share (lone E.mir) bs (off + os) u) ⊛ ‵ (E.own_val x (u ∷ [])))) (part_out 𝓛 E refl full_share x bs (off + os)) $ pick ! (λ u. split ! $ well_typed ! (λ good.
    -- [the place; what it holds; the other places; ..; the block's cell; ..; the other token; the locals]
    first ! $ blocks ! $
    sets ! (of_opd ! (load ! (through ! refl (fld ! refl (stop !))) (look_in ! 5 (sub ! 0 refl (whole !))))) refl (tt, tt) $
    sets ! (bin ! (get ! refl) (size_lit ! (record { fits = omega arith })) (record { fits = omega arith })) refl (tt, record { fits = omega arith }) $
    sets ! (bin ! (get ! refl) (get ! refl) tt) refl (tt, tt) $
    sets_last ! (of_opd ! (load ! (through ! refl (stop !)) (look ! 0 refl))) refl good $
    exec ! 𝓣.C 𝓣.Λ (env F.locals l) (after 1 F.body) (at_ret _ (W.post y)) $
    sets ! (of_opd ! (get ! refl)) refl good $
    forget ! 0 refl $ use1 𝓛 (‵ (froom (raw_ty (lone E.mir)) bs (off + os))) (𝓛.laws.room-raw (lone E.mir) bs (off + os)) $ move ! (0 ∷ 2 ∷ []) $ use2 𝓛 (‵ (places E xs bs os)) (place_in 𝓛 E h.items at None bs os within) $
    move ! (0 ∷ 2 ∷ 3 ∷ 4 ∷ 5 ∷ 6 ∷ 7 ∷ 1 ∷ []) $ closed E (named 0) κ q a.0 ! tt xs bs os e bytes (omega (arith, few, length-set {A = Option E.Denot} h.items at None)) $
    returns ! (look_at ! 0 refl) $ free_all ! refl $
    -- [two parts of the `&mut`; the token of its lifetime; what was taken out; the other token]
    suffices ! _ (ends_at 𝓛 ended stayed c y u x (with_items h xs, (tt, tt)) (tt, (tt, tt))) $ says ! (found.is, refl) $
    feq_i ! (List Val) (mut_vals a.0) (mut_vals a.0) refl $ fjoin3 ! $ nothing ! $ nothing ! $ fjoin ! $ move ! (1 ∷ 0 ∷ []) $ fjoin ! $
    move ! (1 ∷ 3 ∷ 0 ∷ 2 ∷ []) $ join ! $ done !))))))
