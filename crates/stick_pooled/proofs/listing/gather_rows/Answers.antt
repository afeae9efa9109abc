use Rattle.std.proofs.Common.{sym, ◌∙◌, ap}
use Rattle.stick_model.specs.declared.filters.Filter.{Filter}
use Rattle.stick_pooled.specs.Seen.{listed_in}
use Rattle.stick_pooled.proofs.GatherLemmas.{if_made}
use Rattle.stick_pooled.proofs.OneRowLemmas.{nothing-listed}
use Rattle.stick_pooled.proofs.listing.gather_rows.Goals as goal

pub returns-in-Nothing : goal.returns-in-Nothing
returns-in-Nothing c =
    let spec = c.args.spec.now in
    let none = sym (ap (λ (choice : Filter). listed_in spec.columns spec.expire c.args.clock choice c.args.store.now.slots) c.in-Nothing.is ∙ nothing-listed spec.columns spec.expire c.args.clock c.args.store.now.slots) in
    if_made c.in_room.result _ _ c.in_room.ensures none
