use Rattle.std.proofs.Common.{sym, ap, length, ◌∙◌}
use Rattle.std.proofs.lemmas.List.{length-map}
use Rattle.stick_model.specs.State.{State}
use Rattle.stick_pooled.specs.Table.{with_key}
use Rattle.stick_pooled.proofs.StatesLemmas.{now_is}
use Rattle.stick_pooled.proofs.StickTableTable.references.Goals as goal

pub returns : goal.returns
returns c =
    let t = c.self.inside in
    c.len.ensures ∙ sym (length-map t.book.tickets (with_key t.store)) ∙ ap (λ (s : State). length s.tickets) (now_is c.self.view_is)
