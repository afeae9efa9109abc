use Rattle.std.proofs.Common.{◌≡◌, ◌+◌, sym, ◌∙◌, ap, arith, List}
use Rattle.std.proofs.lemmas.Grind.{common_steps}
use Rattle.std.specs.Vec.{with_items}
use Rattle.stick_model.specs.Key.{Key}
use Rattle.stick_model.specs.declared.rows.Record.{Record}
use Rattle.stick_model.specs.declared.replies.Reply.TheVariants.{Value}
use Rattle.stick_model.specs.State.{State}
use Rattle.stick_model.specs.Step.{Outcome, begun, count}
use Rattle.stick_table.proofs.TicketLemmas.{count-found}
use Rattle.stick_table.proofs.contents.Contents.count.Goals as goal

pub returns-in-Some : goal.returns-in-Some
returns-in-Some c =
    let fields = c.self.inside in
    let old : State = record { spec = fields.spec; clock = fields.clock; events = fields.events; records = fields.records.items; tickets = fields.tickets.items } in
    let live = rw c.deref.ensures.value at c.drop_dead.ensures.items in
    let out = rw c.deref-2.ensures.value at c.in-Some.ensures in
    let after = rw c.as_mut_slice.ensures.value at c.act_at.ensures.records in
    let told = rw c.as_mut_slice.ensures.value at c.act_at.ensures.told in
    let refill : (with_items c.drop_dead.new.records c.act_at.new.records).items ≡ c.act_at.new.records = grind (arith, common_steps) in
    ap (λ s. count (begun s c.args.now) c.args.ticket c.args.act) (sym c.self.view_is)
    ∙ count-found old c.args.now c.args.ticket c.args.act c.in-Some.key.now c.max-clock.result c.drop_dead.new.records.items c.act_at.new.records c.act_at.result
    c.max-clock.ensures live (sym out) after told
    ∙ ap (λ (rs : List (Key × Record)). let outcome : Outcome = (Value c.act_at.result, record old { clock = c.max-clock.result; events = fields.events + 1; records = rs }) in outcome) (sym refill)
