use Rattle.stick_pooled.proofs.KeepLemmas.{opened_shown, opened_kept}
use Rattle.stick_pooled.proofs.entry_store.Store.open.Goals as goal

pub invariant_of-result : goal.invariant_of-result
invariant_of-result c = opened_kept c.in_ok-new.field-0 c.in_ok-new-2.field-0 c.in_ok-new-3.field-0 c.in_ok-rows.rows c.in_ok-images.images c.args.size c.args.columns c.width.result c.in_ok-new.ensures c.in_ok-new-2.ensures c.in_ok-new-3.ensures c.in_ok-rows.ensures c.in_ok-images.ensures c.width.ensures

pub returns : goal.returns
returns c = opened_shown c.in_ok-new.field-0 c.in_ok-new-2.field-0 c.in_ok-new-3.field-0 c.in_ok-rows.rows c.in_ok-images.images c.args.size c.args.columns c.width.result c.in_ok-new.ensures c.in_ok-new-2.ensures c.in_ok-new-3.ensures c.in_ok-rows.ensures c.in_ok-images.ensures c.width.ensures
