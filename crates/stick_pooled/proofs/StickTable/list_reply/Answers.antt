use Rattle.std.proofs.Common.{sym, ◌∙◌, ap}
use Rattle.stick_table.specs.Replies.{listed_reply}
use Rattle.stick_model.specs.State.{State}
use Rattle.stick_pooled.proofs.ListingLemmas.{listed-is}
use Rattle.stick_pooled.proofs.StatesLemmas.{now_is}
use Rattle.stick_pooled.proofs.StickTable.list_reply.Goals as goal

pub count_live-used-requires-clause-rising : goal.count_live-used-requires-clause-rising
count_live-used-requires-clause-rising c = c.self.invariant.0.rising

pub returns-in_ok-rows-in-None : goal.returns-in_ok-rows-in-None
returns-in_ok-rows-in-None c =
    let t = c.self.inside in
    listed-is t.spec t.clock t.events t.store t.book c.self.invariant.0 c.args.clock c.args.choice.now c.from.result c.in_ok-rows-in-None.rows (sym c.not_stored.ensures ∙ c.in-None.is) (c.from.ensures ∙ c.count_live-used.ensures) c.in_ok-rows-in-None.ensures
    ∙ ap (λ (s : State). listed_reply s c.args.clock c.args.choice.now) (now_is c.self.view_is)
