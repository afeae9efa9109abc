use Rattle.std.proofs.Common.{ap, sym, ◌∙◌}
use Rattle.stick_model.specs.State.{State}
use Rattle.stick_model.specs.Step.{clear}
use Rattle.stick_pooled.specs.Stock.{Stock}
use Rattle.stick_pooled.proofs.TableLemmas.{cleared-absent, cleared-in-use, clear-queued, cleared-table, cleared-removed}
use Rattle.stick_pooled.proofs.StatesLemmas.{now_is, base_is, base_stays, keeps_base}
use Rattle.stick_pooled.proofs.StickTable.clear.Goals as goal

pub returns-in_default-clause-now : goal.returns-in_default-clause-now
returns-in_default-clause-now c = ap (λ (s : State). clear s c.args.key.now) (sym c.begin.ensures.now) ∙ cleared-absent c.self.inside.spec c.self.inside.clock c.self.inside.events c.self.inside.store c.self.inside.book c.self.invariant.0 c.begin.new.self.now (now_is c.self.view_is) c.args.key.now c.in_default.ensures.absent

pub returns-then-entry-gt0-clause-now : goal.returns-then-entry-gt0-clause-now
returns-then-entry-gt0-clause-now c = ap (λ (s : State). clear s c.args.key.now) (sym c.begin.ensures.now) ∙ cleared-in-use c.self.inside.spec c.self.inside.clock c.self.inside.events c.self.inside.store c.self.inside.book c.self.invariant.0 c.begin.new.self.now (now_is c.self.view_is) c.args.key.now c.in-Some.handle c.in-Some.ensures.found c.entry.result c.entry.ensures c.if-entry-gt0.true

pub remove-requires : goal.remove-requires
remove-requires c = clear-queued c.self.inside.spec c.self.inside.clock c.self.inside.events c.self.inside.store c.self.inside.book c.self.invariant.0 c.begin.new.self.now (now_is c.self.view_is) c.args.key.now c.in-Some.handle c.in-Some.ensures.found c.entry.result c.entry.ensures c.if-entry-gt0.false

pub invariant_of-self : goal.invariant_of-self
invariant_of-self c =
    let t = c.self.inside in (
      cleared-table c.self.inside.spec c.self.inside.clock c.self.inside.events c.self.inside.store c.self.inside.book c.self.invariant.0 c.begin.new.self.now (now_is c.self.view_is) c.args.key.now c.in-Some.handle c.in-Some.ensures.found c.entry.result c.entry.ensures c.if-entry-gt0.false c.remove.new.self c.remove.ensures,
      keeps_base t.spec t.base_clock t.base_events t.base_tickets.items t.store.base c.remove.new.self.base (ap (λ (x : Stock). x.base) c.remove.ensures) c.self.invariant.1,
    )

pub returns-clause-now : goal.returns-clause-now
returns-clause-now c = ap (λ (s : State). clear s c.args.key.now) (sym c.begin.ensures.now) ∙ cleared-removed c.self.inside.spec c.self.inside.clock c.self.inside.events c.self.inside.store c.self.inside.book c.self.invariant.0 c.begin.new.self.now (now_is c.self.view_is) c.args.key.now c.in-Some.handle c.in-Some.ensures.found c.entry.result c.entry.ensures c.if-entry-gt0.false c.remove.new.self c.remove.ensures

pub returns-clause-base : goal.returns-clause-base
returns-clause-base c =
    let t = c.self.inside in
    base_stays t.spec t.base_clock t.base_events t.base_tickets.items t.store.base c.remove.new.self.base (ap (λ (x : Stock). x.base) c.remove.ensures) ∙ base_is c.self.view_is ∙ c.begin.ensures.base
