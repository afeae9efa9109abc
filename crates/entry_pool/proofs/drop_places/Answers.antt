use Rattle.std.proofs.Common.{◌<◌, None, get_or, slice_set, length, refl, sym, ap, subst, ◌∙◌, inl, inr, arith, length-set}
use Rattle.std.proofs.Permutation.{which}
use Rattle.std.proofs.lemmas.List.{get_or-set_same, get_or-set_other}
use Rattle.entry_pool.specs.Slots.{IsTold}
use Rattle.entry_pool.proofs.SlotLemmas.{all_none}
use Rattle.entry_pool.proofs.drop_places.Goals as goal

pub loop-at-init : goal.loop-at-init
loop-at-init g c = record { same_block = (refl, refl); sized = refl; before = λ slot within. absurd (omega (arith, within)); behind = λ slot _. refl }

pub drop_place-requires : goal.drop_place-requires
drop_place-requires g c = subst (IsTold (get_or c.args.links.now c.loop-at.at 0)) (sym (c.loop-at.invariant.behind c.loop-at.at (omega arith))) (c.requires.told c.loop-at.at c.loop-at-test.true)

pub loop-at-preserved : goal.loop-at-preserved
loop-at-preserved g c =
    let i = c.loop-at.invariant in let at = c.loop-at.at in let xs = c.loop-at.block.items in let done = c.drop_place.ensures in
    let within : at < length xs = omega (arith, c.loop-at-test.true, c.requires.sized, i.sized) in
    rw done.emptied (record {
      same_block = (done.same_block.0 ∙ i.same_block.0, done.same_block.1 ∙ i.same_block.1);
      sized = length-set xs at None ∙ i.sized;
      before = λ slot below. elim (which slot at) [
        | inl same ↦ ap (λ k. get_or (slice_set xs at None) k None) same ∙ get_or-set_same xs at None None within
        | inr other ↦ get_or-set_other xs at slot None None other ∙ i.before slot (omega (arith, below, other))
      ];
      behind = λ slot after. get_or-set_other xs at slot None None (λ same. omega (arith, after, same)) ∙ i.behind slot (omega (arith, after));
    })

pub returns-clause-same_block : goal.returns-clause-same_block
returns-clause-same_block g c = c.loop-at.invariant.same_block

pub returns-clause-empty : goal.returns-clause-empty
returns-clause-empty g c =
    let i = c.loop-at.invariant in
    all_none c.loop-at.block.items (length c.args.links.now) (omega (arith, i.sized, c.requires.sized)) (λ slot within. i.before slot (omega (arith, within, c.loop-at-test.false)))
