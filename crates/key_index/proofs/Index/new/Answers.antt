use Rattle.std.proofs.Common.{◌≡◌, refl, arith}
use Rattle.key_index.proofs.SoundLemmas.{sound-new}
use Rattle.key_index.proofs.MarkLemmas.{marked-new}
use Rattle.key_index.proofs.TagLemmas.{tagged-new}
use Rattle.key_index.proofs.NodeLemmas.{no_entries}
use Rattle.key_index.proofs.Index.new.Goals as goal

pub invariant_of-result : goal.invariant_of-result
invariant_of-result c =
    let heads = c.in_ok-from_elem.ensures.items_if_clones_equal (λ y same. same) in
    let marks = c.in_ok-from_elem-2.ensures.items_if_clones_equal (λ y same. same) in
    let links = c.in_ok-from_elem-3.ensures.items_if_clones_equal (λ y same. same) in
    let through = c.loop-slot-test.false in let most = c.loop-slot.auto._slot-end in
    let all : c.loop-slot._slot ≡ c.args.capacity = omega arith in
    let buckets = c.next_power_of_two-buckets.ensures.lower_bound in let some = c.requires.positive in
    rw (c.loop-slot.invariant.items, all, heads, marks, links) (
      sound-new c.args.capacity c.next_power_of_two-buckets.result c.args.seed _ c.requires.within (omega arith),
      marked-new c.args.capacity c.next_power_of_two-buckets.result c.args.seed,
      tagged-new c.args.capacity c.args.seed _,
    )

pub returns : goal.returns
returns c =
    let through = c.loop-slot-test.false in let most = c.loop-slot.auto._slot-end in
    let all : c.loop-slot._slot ≡ c.args.capacity = omega arith in
    rw (c.loop-slot.invariant.items, all, no_entries) refl
