-- A division and a comparison, with the size of a value that is not known.
use Rattle.entry_pool.proofs.Steps.{◌<◌, [], ◌∷◌, refl, arith, w64, proved, fact, tables, ‵, raw, ◌⊛◌, ◌$◌, ◌∵◌, !, qed, ftrue, flft, a_type, dnil, inst_fn, usize, yes, bounded, param, uint_vals, uint_Tells, plain, Stays, walk_of, stay_dropped, Goes-dropped, split, drop, heard, move}
use Rattle.entry_pool.proofs.Steps.{keep}
use types.Run.{size_word}
use Rattle.entry_pool.proofs.Memory.{large, fits_from_test}
use prog.Memory.{capped}
use mir.Val.{vbool}
use Rattle.std.proofs.Math.Dec.{leb}
use Rattle.std.proofs.Math.Nat.{div-le_self}
use Rattle.std.proofs.Common.{◌/◌}
use contract.BorrowLft.{◌⊑◌}
use Rattle.std.proofs.Common.{◌^◌, lit<, List}
use mir.Val.{Val}
use Rattle.entry_pool.proofs.Steps.{feq_i, fjoin, nothing, done, enter, bin, returns, alloc_all, pass_all, free_all, look_at, get, sets, suffices, says, ends_at}
use Rattle.std.specs.Mem.{type_size}
use Rattle.entry_pool.specs.contracts.block.Block.can_hold as f
use Rattle.entry_pool.proofs.block.Block.can_hold.Statement.{statement}
use Rattle.entry_pool.proofs.block.Block.can_hold.Code as code

pub can_hold_spec : {M : Type 1} → statement M
can_hold_spec 𝓤 𝓛 𝓜 𝓡 wired T₀ L =
    let ended = f.ended T₀ in let c = f.clauses T₀ 𝓛 𝓜.mem 𝓡.returns in
    let E = param 0 T₀ in let word = plain (λ _. usize) in
    let stayed : Stays ended.signature.params ended.kept = (stay_dropped word yes, tt) in
    let W = walk_of 𝓛 ended stayed c in let 𝓣 = tables 𝓤 𝓛.H 𝓜 𝓡 𝓡.env in
    let args = bounded (a_type ∷ []) (T₀, tt) dnil in let F = inst_fn args code.function in
    proved 𝓛 ended stayed c 𝓜 𝓡
    (Goes-dropped 𝓛 1 word yes (λ κs x w. refl), tt)
    (f.Key.name args) F (code.unfolded 𝓤 𝓛.H 𝓜 𝓡 wired (T₀, tt))
    (λ κs. (uint_vals w64, tt)) (λ κs. (uint_Tells w64, tt)) (λ κs qs bounds a _ are.
    let count = a.0 in
    let y : W.Ghost = ((κs, qs, bounds, a, (uint_vals w64 count, tt)), tt) in
    qed 𝓛 (((‵ (flft κs.0 qs.0) ⊛ ‵ ftrue) ⊛ ‵ (usize.own_val count (uint_vals w64 count)) ⊛ ‵ ftrue)
    ∷ (raw (fact 𝓤 (κs.0 ⊑ T₀.lives)) ⊛ raw (fact 𝓤 ((0 < count) × (count < 2 ^ 63)))) ∷ []) ∵
    move ! (1 ∷ []) $ split ! $ drop ! $ heard ! _ (λ given.
    split ! $ keep ! (0 ∷ []) $
    enter ! _ _ _ _ _ $ alloc_all ! (λ l. pass_all ! refl ((tt, record { fits = are.0.1 }), tt) $
    sets ! (bin ! (large ! (record { fits = lit< tt })) (get ! refl) given.0) refl (tt, record { fits = omega (arith, div-le_self 9223372036854775807 count) }) $
    sets ! (bin ! (size_word !) (get ! refl) tt) refl (tt, tt) $
    returns ! (look_at ! 0 refl) $ free_all ! refl $
    let size = type_size E in let r = leb (capped size) (9223372036854775807 / count) in
    suffices ! _ (ends_at 𝓛 ended stayed c y (vbool r) r (tt, tt) (tt, tt)) $ says ! (λ tested. (fits_from_test size count tested, given.1)) $
    feq_i ! (List Val) (vbool r ∷ []) (vbool r ∷ []) refl $ nothing ! $ nothing ! $ fjoin ! $ move ! (2 ∷ 0 ∷ 1 ∷ []) $ done !)))
