use Rattle.std.proofs.Common.{◌∙◌, sym}
use Rattle.std.proofs.lemmas.Result.{on_ok_weaker}
use Rattle.stick_pooled.specs.Stock.{held_at}
use Rattle.stick_pooled.proofs.GatherLemmas.{listed-none, listed-some}
use Rattle.stick_pooled.proofs.listing.gather_slot.Goals as goal

pub returns-then-not-is_listed : goal.returns-then-not-is_listed
returns-then-not-is_listed c =
    listed-none c.args.rows.now.columns c.args.expire c.args.clock c.args.choice.now c.args.rows.now (held_at c.args.store.now c.args.slot) (sym c.is_listed.ensures ∙ c.if-not-is_listed.true)

pub returns : goal.returns
returns c = on_ok_weaker c.gather_row.result (λ added.
    listed-some c.args.rows.now.columns c.args.expire c.args.clock c.args.choice.now c.args.rows.now c.gather_row.new.rows (held_at c.args.store.now c.args.slot) (sym c.is_listed.ensures ∙ c.if-not-is_listed.false) added) c.gather_row.ensures
