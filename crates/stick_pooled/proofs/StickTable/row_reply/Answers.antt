use Rattle.std.proofs.Common.{sym, ap, ◌∙◌}
use Rattle.stick_table.specs.Replies.{shown_reply}
use Rattle.stick_model.specs.State.{State}
use Rattle.stick_pooled.proofs.LookLemmas.{shown-gone, shown-row}
use Rattle.stick_pooled.proofs.StatesLemmas.{now_is}
use Rattle.stick_pooled.proofs.StickTable.row_reply.Goals as goal

pub returns-in_default : goal.returns-in_default
returns-in_default c =
    let t = c.self.inside in
    sym (ap (λ (s : State). shown_reply s c.args.clock c.args.key.now) (sym (now_is c.self.view_is)) ∙ shown-gone t.spec t.clock t.events t.store t.book c.self.invariant.0 c.args.clock c.args.key.now c.in_default.ensures.gone)

pub returns : goal.returns
returns c =
    let t = c.self.inside in
    let l = c.in-Some.ensures.live in
    shown-row t.spec t.clock t.events t.store t.book c.self.invariant.0 c.args.clock c.args.key.now c.in-Some.at l.held c.in_ok-row.row l.there l.keyed l.kept (c.in_ok-row.ensures l.held l.there)
    ∙ ap (λ (s : State). shown_reply s c.args.clock c.args.key.now) (now_is c.self.view_is)
