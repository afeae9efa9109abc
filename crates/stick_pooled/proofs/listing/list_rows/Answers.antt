use Rattle.std.proofs.Common.{◌∙◌}
use Rattle.std.specs.Cmp.Lexicographic.{nat_list_cmp_total}
use Rattle.std.proofs.lemmas.List.MinMax.{ranks_by}
use Rattle.std.proofs.lemmas.Result.{IfOk-weaker}
use Rattle.stick_model.specs.Gathered.{has_lower_key, in_key_order}
use Rattle.stick_model.specs.Key.{Key}
use Rattle.stick_model.specs.declared.rows.Row.{Row}
use Rattle.stick_model.proofs.OrderLemmas.{order-moves, order-rises}
use Rattle.stick_pooled.proofs.RowOrderLemmas.{rows-sorted}
use Rattle.stick_pooled.proofs.listing.list_rows.Goals as goal

pub returns : goal.returns
returns c =
    let key : Row → Key = λ row. row.key in
    let spec = c.args.spec.now in
    let rows = c.in_ok-rows.rows.rows in
    let sorted = rows-sorted spec.columns spec.expire c.args.clock c.args.choice.now c.args.store.now rows (in_key_order rows) c.requires.stock c.in_ok-rows.ensures
    (order-moves has_lower_key rows) (order-rises has_lower_key (ranks_by nat_list_cmp_total key) rows) in
    IfOk-weaker c.gathered.result _ _ (λ all is. is ∙ sorted) c.gathered.ensures
