use Rattle.std.proofs.Common.{◌≡◌, ◌-◌, sym, ◌∙◌, ap}
use Rattle.stick_pooled.specs.Stock.{held_count}
use Rattle.stick_model.specs.State.{State}
use Rattle.stick_model.specs.Step.{cleared}
use Rattle.stick_pooled.specs.Table.{tickets_of}
use Rattle.stick_pooled.proofs.ClearLemmas.{cleared-table, cleared-is}
use Rattle.stick_pooled.proofs.StatesLemmas.{now_is, base_is, base_stays, keeps_base}
use Rattle.stick_pooled.proofs.StickTable.clear_matching.Goals as goal

pub invariant_of-self : goal.invariant_of-self
invariant_of-self c =
    let t = c.self.inside in
    let d = c.remove_matching.ensures in (
      cleared-table t.spec t.clock t.events t.store c.remove_matching.new.store t.book c.self.invariant.0 d.left d.stock d.rising d.columns d.newest d.slots,
      keeps_base t.spec t.base_clock t.base_events t.base_tickets.items t.store.base c.remove_matching.new.store.base (d.left.base) c.self.invariant.1,
    )

pub returns-clause-now : goal.returns-clause-now
returns-clause-now c =
    let t = c.self.inside in
    let d = c.remove_matching.ensures in
    let removed : c.from.result ≡ held_count t.store - held_count c.remove_matching.new.store =
    c.from.ensures ∙ c.saturating_sub-removed.ensures ∙ ap (λ n. n - c.len.result) c.len-before.ensures ∙ ap (λ n. held_count t.store - n) c.len.ensures in
    ap (λ (s : State). cleared s c.args.choice.now) (sym (now_is c.self.view_is))
    ∙ cleared-is t.spec t.clock t.events t.store c.remove_matching.new.store t.book c.self.invariant.0 d.left c.args.choice.now c.from.result c.from-2.result (d.records (tickets_of t.store t.book) t.spec.expire c.self.invariant.0.counted) d.stock removed (c.from-2.ensures ∙ c.count_tracked-kept.ensures)

pub returns-clause-base : goal.returns-clause-base
returns-clause-base c =
    let t = c.self.inside in
    base_stays t.spec t.base_clock t.base_events t.base_tickets.items t.store.base c.remove_matching.new.store.base (c.remove_matching.ensures.left.base) ∙ base_is c.self.view_is
