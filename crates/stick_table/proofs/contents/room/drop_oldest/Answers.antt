use Rattle.stick_table.specs.Purging.{purge_limit}
use Rattle.std.proofs.Common.{rules, sym, ◌∙◌, ap}
use Rattle.std.proofs.lemmas.Fn.{filter_same}
use Rattle.stick_model.specs.State.{is_tracked}
use Rattle.stick_table.proofs.PurgeLemmas.{filter-limit, filter-no_limit}
use Rattle.stick_table.proofs.contents.room.drop_oldest.Goals as goal

pub returns-in-Some-clause-items : goal.returns-in-Some-clause-items
returns-in-Some-clause-items c =
    filter_same _ _ _ (λ x b f' k. search rules) _ _ c.retain.ensures.filtered
    ∙ sym (filter-limit (λ e. is_tracked e.0 c.args.tickets.now) (λ e. e.1.stamp) c.args.records.now.items c.args.purge c.in-Some.limit (ap (purge_limit c.args.purge c.args.tickets.now) (sym c.deref.ensures.value) ∙ sym c.purge_limit.ensures ∙ c.in-Some.is))

pub returns-in_default-clause-items : goal.returns-in_default-clause-items
returns-in_default-clause-items c = sym (filter-no_limit (λ e. is_tracked e.0 c.args.tickets.now) (λ e. e.1.stamp) c.args.records.now.items c.args.purge (ap (purge_limit c.args.purge c.args.tickets.now) (sym c.deref.ensures.value) ∙ sym c.purge_limit.ensures ∙ c.in_default.is))
