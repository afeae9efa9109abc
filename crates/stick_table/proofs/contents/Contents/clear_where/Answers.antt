use Rattle.stick_model.specs.Filters.{not_stored}
use Rattle.std.proofs.Common.{◌≡◌, sym, ◌∙◌, ap, List, Option, None}
use Rattle.std.specs.Option.{option_map_or}
use Rattle.stick_model.specs.Key.{Key}
use Rattle.stick_model.specs.Step.{Outcome, cleared, clear_where}
use Rattle.stick_model.specs.State.{State}
use Rattle.stick_model.specs.declared.rows.Record.{Record}
use Rattle.stick_model.specs.declared.replies.Reply.{Reply}
use Rattle.stick_model.specs.declared.replies.Reply.TheVariants.{NotStored}
use Rattle.stored_data.specs.declared.field.Field.{Field}
use Rattle.stick_table.proofs.contents.Contents.clear_where.Goals as goal

pub returns-in-None : goal.returns-in-None
returns-in-None c =
    let fields = c.self.inside in
    let state : State = record { spec = fields.spec; clock = fields.clock; events = fields.events; records = fields.records.items; tickets = fields.tickets.items } in
    let choice = c.args.choice.now in
    let fine : not_stored fields.spec.columns choice ≡ None = sym c.not_stored.ensures ∙ c.in-None.is in
    let reply = rw c.deref.ensures.value at c.clear_matching.ensures.reply in
    let records = rw c.deref.ensures.value at c.clear_matching.ensures.records in
    ap (λ s. clear_where s choice) (sym (c.self.view_is ∙ c.begin.ensures))
    ∙ ap (λ (o : Option Field). option_map_or {U = Outcome} (λ field. (NotStored field, state)) o (cleared state choice)) fine
    ∙ ap (λ (r : Reply). let outcome : Outcome = (r, (cleared state choice).1) in outcome) (sym reply)
    ∙ ap (λ (rs : List (Key × Record)). let outcome : Outcome = (c.clear_matching.result, record state { records = rs }) in outcome) (sym records)
