use Rattle.std.proofs.Common.{sym, ap, length, ◌∙◌}
use Rattle.stick_model.specs.State.{State}
use Rattle.stick_pooled.proofs.StatesLemmas.{now_is}
use Rattle.stick_pooled.proofs.TableLemmas.{records-length}
use Rattle.stick_pooled.proofs.StickTableTable.entries.Goals as goal

pub returns : goal.returns
returns c =
    let t = c.self.inside in
    c.len.ensures ∙ sym (records-length t.spec.expire t.store c.self.invariant.0.stock) ∙ ap (λ (s : State). length s.records) (now_is c.self.view_is)
