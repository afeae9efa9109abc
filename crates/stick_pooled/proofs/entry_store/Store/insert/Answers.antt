use Rattle.std.proofs.Common.{ℕ, ◌<◌, length, sym, subst, ap, ◌∙◌, rules}
use Rattle.stored_data.specs.Acts.{zero_of}
use Rattle.stick_pooled.specs.Stock.{Stock, with_inserted}
use Rattle.stick_pooled.proofs.CallLemmas.{index_absent, not_in_order, in_slots, nothing_held, not_full}
use Rattle.stick_pooled.proofs.KeepLemmas.{insert_shown_base, insert_kept_base}
use Rattle.stick_pooled.specs.Parts.{base_shown}
use Rattle.stick_pooled.proofs.entry_store.Store.insert.Goals as goal

pub insert-requires-in-Ok-clause-absent : goal.insert-requires-in-Ok-clause-absent
insert-requires-in-Ok-clause-absent c = index_absent c.self.inside.entries c.self.inside.index c.self.inside.order c.self.inside.rows c.self.invariant.0 (base_shown c.self.inside.entries c.self.inside.index c.self.inside.rows c.self.inside.images) c.self.invariant.1.0 c.args.self.now c.self.view_is c.args.key c.requires.absent

pub enter-requires-clause-outside : goal.enter-requires-clause-outside
enter-requires-clause-outside c = not_in_order c.self.inside.entries c.self.inside.index c.self.inside.order c.self.inside.rows c.self.invariant.0 (base_shown c.self.inside.entries c.self.inside.index c.self.inside.rows c.self.inside.images) c.self.invariant.1.0 c.args.self.now c.self.view_is c.in-Ok.handle.slot c.in-Ok.ensures.free.1

pub keep_empty-requires : goal.keep_empty-requires
keep_empty-requires c =
    let below = in_slots c.self.inside.entries c.self.inside.index c.self.inside.order c.self.inside.rows c.self.invariant.0 (base_shown c.self.inside.entries c.self.inside.index c.self.inside.rows c.self.inside.images) c.self.invariant.1.0 c.args.self.now c.self.view_is c.in-Ok.handle.slot c.in-Ok.ensures.free.0 in
    subst (λ n. c.in-Ok.handle.slot < n) (ap (λ (x : Stock). length x.slots) (sym c.self.view_is) ∙ sym c.self.invariant.1.1.placed) below

pub invariant_of-self : goal.invariant_of-self
invariant_of-self c = insert_kept_base c.self.inside.entries c.self.inside.index c.self.inside.order c.self.inside.rows c.self.inside.images c.self.invariant.0 c.self.invariant.1 c.args.self.now c.self.view_is c.in-Ok.handle c.args.entry c.args.key c.insert.new.self c.insert-in-Ok.new.self c.enter.new.order c.clear.new.self c.keep_empty.new.self c.in-Ok.ensures.inserted c.insert-in-Ok.ensures c.enter.ensures c.clear.ensures c.keep_empty.ensures c.in-Ok.ensures.free.1 c.in-Ok.ensures.free.0 c.requires.absent

pub unreachable-requires : goal.unreachable-requires
unreachable-requires c = not_full c.self.inside.entries c.self.inside.index c.self.inside.order c.self.inside.rows c.self.invariant.0 (base_shown c.self.inside.entries c.self.inside.index c.self.inside.rows c.self.inside.images) c.self.invariant.1.0 c.args.self.now c.self.view_is c.requires.room (c.in-Err.ensures.refused.0 (search rules))

pub returns-clause-below : goal.returns-clause-below
returns-clause-below c = in_slots c.self.inside.entries c.self.inside.index c.self.inside.order c.self.inside.rows c.self.invariant.0 (base_shown c.self.inside.entries c.self.inside.index c.self.inside.rows c.self.inside.images) c.self.invariant.1.0 c.args.self.now c.self.view_is c.in-Ok.handle.slot c.in-Ok.ensures.free.0

pub returns-clause-free : goal.returns-clause-free
returns-clause-free c = nothing_held c.self.inside.entries c.self.inside.index c.self.inside.order c.self.inside.rows c.self.invariant.0 (base_shown c.self.inside.entries c.self.inside.index c.self.inside.rows c.self.inside.images) c.self.invariant.1.0 c.args.self.now c.self.view_is c.in-Ok.handle.slot c.in-Ok.ensures.free.1

pub returns-clause-inserted : goal.returns-clause-inserted
returns-clause-inserted c =
    insert_shown_base c.self.inside.entries c.self.inside.index c.self.inside.order c.self.inside.rows c.self.inside.images c.self.invariant.0 c.self.invariant.1 c.args.self.now c.self.view_is c.in-Ok.handle c.args.entry c.args.key c.insert.new.self c.insert-in-Ok.new.self c.enter.new.order c.clear.new.self c.keep_empty.new.self c.in-Ok.ensures.inserted c.insert-in-Ok.ensures c.enter.ensures c.clear.ensures c.keep_empty.ensures c.in-Ok.ensures.free.1 c.in-Ok.ensures.free.0
    ∙ ap (λ (n : ℕ). with_inserted c.args.self.now c.in-Ok.handle.slot (record { key = c.args.key; generation = n; entry = c.args.entry; values = zero_of c.args.self.now.columns })) c.in-Ok.ensures.generation
