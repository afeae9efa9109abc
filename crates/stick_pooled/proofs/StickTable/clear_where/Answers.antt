use Rattle.std.proofs.Common.{◌≡◌, None, Option, sym, ◌∙◌, ap}
use Rattle.std.specs.Option.{option_map_or}
use Rattle.stored_data.specs.declared.field.Field.{Field}
use Rattle.stick_model.specs.Filters.{not_stored}
use Rattle.stick_model.specs.State.{State}
use Rattle.stick_model.specs.Step.{Outcome, cleared, clear_where}
use Rattle.stick_model.specs.declared.replies.Reply.TheVariants.{NotStored}
use Rattle.stick_pooled.specs.Table.{state_of}
use Rattle.stick_pooled.proofs.StatesLemmas.{now_is}
use Rattle.stick_pooled.proofs.StickTable.clear_where.Goals as goal

pub returns-in-None-clause-now : goal.returns-in-None-clause-now
returns-in-None-clause-now c =
    let t = c.self.inside in
    let state : State = state_of t.spec t.clock t.events t.store t.book in
    let fine : not_stored t.spec.columns c.args.choice.now ≡ None = sym c.not_stored.ensures ∙ c.in-None.is in
    ap (λ (s : State). clear_where s c.args.choice.now) (sym c.begin.ensures.now ∙ sym (now_is c.self.view_is))
    ∙ ap (λ (o : Option Field). option_map_or {U = Outcome} (λ field. (NotStored field, state)) o (cleared state c.args.choice.now)) fine
    ∙ ap (λ (s : State). cleared s c.args.choice.now) (now_is c.self.view_is)
    ∙ c.clear_matching.ensures.now
