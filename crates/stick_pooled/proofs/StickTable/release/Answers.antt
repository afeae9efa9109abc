use Rattle.std.proofs.Common.{◌+◌, sym, subst, ap, ◌∙◌, is_some}
use Rattle.std.specs.Option.{option_map}
use Rattle.stick_pooled.specs.Stock.{Stock, held_at, key_in}
use Rattle.stick_pooled.specs.Tickets.{Tickets}
use Rattle.stick_model.specs.State.{State, key_of, same_ticket}
use Rattle.stick_model.specs.Step.{release}
use Rattle.stick_model.specs.declared.replies.Reply.TheVariants.{Released}
use Rattle.stick_pooled.specs.Steps.{with_event}
use Rattle.stick_pooled.specs.Table.{state_of, IsTable}
use Rattle.stick_pooled.proofs.CountLemmas.{lookup-keys, held-of}
use Rattle.stick_pooled.proofs.ReleaseLemmas.{release-some, released-table, released-is}
use Rattle.stick_pooled.proofs.StatesLemmas.{now_is, base_is, base_stays, keeps_base}
use Rattle.stick_pooled.proofs.StickTable.release.Goals as goal

pub unreachable-requires : goal.unreachable-requires
unreachable-requires c =
    let t = c.self.inside in
    c.requires.out (ap (λ (s : State). key_of c.args.ticket s.tickets) (sym (now_is c.self.view_is ∙ c.advance.ensures.now)) ∙ lookup-keys t.store (same_ticket c.args.ticket) t.book.tickets ∙ ap (option_map (λ slot. key_in (held_at t.store slot))) (sym c.remove.ensures.value ∙ c.in_default.is))

pub let_go-requires-clause-there : goal.let_go-requires-clause-there
let_go-requires-clause-there c =
    let t = c.self.inside in
    ap is_some (held-of t.spec t.clock t.events t.store t.book c.self.invariant.0 c.args.ticket c.in-Some.slot (sym c.in-Some.ensures.value)).1

pub let_go-requires-clause-held : goal.let_go-requires-clause-held
let_go-requires-clause-held c held there =
    let t = c.self.inside in
    release-some t.spec t.clock t.events t.store t.book c.self.invariant.0 c.args.ticket c.in-Some.slot (sym c.in-Some.ensures.value) held there

pub invariant_of-self : goal.invariant_of-self
invariant_of-self c =
    let t = c.self.inside in
    let h = held-of t.spec t.clock t.events t.store t.book c.self.invariant.0 c.args.ticket c.in-Some.slot (sym c.in-Some.ensures.value) in (
      subst (λ (p : Stock × Tickets). IsTable t.spec t.clock (t.events + 1) p.0 p.1) (λ i. (sym (c.let_go.ensures h.0 h.1) i, sym c.in-Some.ensures.removed i))
          (released-table t.spec t.clock t.events t.store t.book c.self.invariant.0 c.args.ticket c.in-Some.slot (sym c.in-Some.ensures.value) h.0 h.1),
      keeps_base t.spec t.base_clock t.base_events t.base_tickets.items t.store.base c.let_go.new.store.base (ap (λ (s : Stock). s.base) (c.let_go.ensures h.0 h.1)) c.self.invariant.1,
    )

pub returns-clause-now : goal.returns-clause-now
returns-clause-now c =
    let t = c.self.inside in
    let h = held-of t.spec t.clock t.events t.store t.book c.self.invariant.0 c.args.ticket c.in-Some.slot (sym c.in-Some.ensures.value) in
    ap (λ (s : State). release (with_event s) c.args.ticket) (sym (now_is c.self.view_is ∙ c.advance.ensures.now))
    ∙ released-is t.spec t.clock t.events t.store t.book c.self.invariant.0 c.args.ticket c.in-Some.slot (sym c.in-Some.ensures.value) h.0 h.1
    ∙ (λ i. (Released, state_of t.spec t.clock (t.events + 1) (sym (c.let_go.ensures h.0 h.1) i) (sym c.in-Some.ensures.removed i)))

pub returns-clause-base : goal.returns-clause-base
returns-clause-base c =
    let t = c.self.inside in
    let h = held-of t.spec t.clock t.events t.store t.book c.self.invariant.0 c.args.ticket c.in-Some.slot (sym c.in-Some.ensures.value) in
    base_stays t.spec t.base_clock t.base_events t.base_tickets.items t.store.base c.let_go.new.store.base (ap (λ (s : Stock). s.base) (c.let_go.ensures h.0 h.1)) ∙ base_is c.self.view_is ∙ c.advance.ensures.base
