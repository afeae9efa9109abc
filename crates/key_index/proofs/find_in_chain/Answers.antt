use Rattle.std.proofs.Common.{◌<◌, length, None, true≢false, sym, subst, ◌∙◌, arith}
use Rattle.key_index.specs.Chains.{HoldsKey, LeadsTo}
use Rattle.key_index.proofs.NodeLemmas.{read_is}
use Rattle.key_index.proofs.SearchLemmas.{leads_inside, leads_end, leads_on}
use Rattle.key_index.proofs.find_in_chain.Goals as goal
use Rattle.key_index.proofs.find_in_chain.Goals.{else-link-tag-via-then-link-tag+else-has_key, else-link-tag-via-else-link-tag}

pub bounds-links-slot : goal.bounds-links-slot
bounds-links-slot c = leads_inside c.args.links.now c.args.nodes.now c.loop-slot.slot c.args.key.now c.loop-slot-test.true c.loop-slot.invariant

pub bounds-nodes-slot : goal.bounds-nodes-slot
bounds-nodes-slot c = omega (arith, leads_inside c.args.links.now c.args.nodes.now c.loop-slot.slot c.args.key.now c.loop-slot-test.true c.loop-slot.invariant, c.requires.long)

pub returns-then-has_key-clause-found : goal.returns-then-has_key-clause-found
returns-then-has_key-clause-found c =
    let inside : c.loop-slot.slot < length c.args.nodes.now = omega (arith, leads_inside c.args.links.now c.args.nodes.now c.loop-slot.slot c.args.key.now c.loop-slot-test.true c.loop-slot.invariant, c.requires.long) in
    let here = c.has_key.ensures.0 c.if-has_key.true in
    (here.0, sym (read_is c.args.nodes.now c.loop-slot.slot _ None inside c.index-nodes-slot.is) ∙ here.1, here.2)

-- a slot that is passed by does not have the key
passed_by : (c : goal.Joined-else-link-tag) → HoldsKey c.args.nodes.now c.loop-slot.slot c.args.key.now → ⊥
passed_by c holds =
    let inside : c.loop-slot.slot < length c.args.nodes.now = omega (arith, leads_inside c.args.links.now c.args.nodes.now c.loop-slot.slot c.args.key.now c.loop-slot-test.true c.loop-slot.invariant, c.requires.long) in
    elim c.else-link-tag.branch [
      | else-link-tag-via-then-link-tag+else-has_key w ↦ true≢false (sym (w.has_key.ensures.1 (holds.0, read_is c.args.nodes.now c.loop-slot.slot _ None inside w.index-nodes-slot.is ∙ holds.1, holds.2)) ∙ w.if-has_key.false)
      | else-link-tag-via-else-link-tag w ↦ w.if-link-tag.false (c.requires.tagged c.loop-slot.slot holds)
    ]

pub loop-slot-smaller : goal.loop-slot-smaller
loop-slot-smaller c = (leads_on c.args.links.now c.args.nodes.now c.loop-slot.slot c.args.key.now c.requires.small c.loop-slot-test.true (passed_by c) c.loop-slot.invariant).1

pub loop-slot-preserved : goal.loop-slot-preserved
loop-slot-preserved c = (leads_on c.args.links.now c.args.nodes.now c.loop-slot.slot c.args.key.now c.requires.small c.loop-slot-test.true (passed_by c) c.loop-slot.invariant).0

pub returns-clause-absent : goal.returns-clause-absent
returns-clause-absent c =
    leads_end c.args.links.now c.args.nodes.now c.args.key.now c.requires.small (subst (λ k. LeadsTo c.args.links.now c.args.nodes.now k c.args.key.now) c.loop-slot-test.false c.loop-slot.invariant)
