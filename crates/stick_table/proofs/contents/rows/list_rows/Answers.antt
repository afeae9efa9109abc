use Rattle.stick_model.specs.Filters.{passes}
use Rattle.stick_table.specs.Replies.{listed_rows}
use Rattle.std.proofs.Common.{◌∷◌, [], ◌++◌, ◌+◌, sym, ◌∙◌, ap, drop}
use Rattle.stick_model.specs.Key.{Key}
use Rattle.stick_model.specs.declared.rows.Record.{Record}
use Rattle.stick_model.specs.State.{refs, row_of, stays}
use Rattle.stick_table.proofs.ListLemmas.{listed-more}
use Rattle.stick_table.proofs.contents.rows.list_rows.Goals as goal

pub loop-entry-preserved : goal.loop-entry-preserved
loop-entry-preserved c =
    let a = c.args in
    let e = c.entry-item.result in
    let f = λ (x : Key × Record). row_of a.columns.now a.clock (refs x.0 a.tickets.now) x.0 x.1 in
    ap (λ ys. ys ++ listed_rows a.columns.now a.tickets.now a.clock a.choice.now (drop (c.loop-entry.entry-index + 1) a.records.now))
    (c.in_ok-push.ensures.items ∙ ap (λ y. c.loop-entry.rows.items ++ y ∷ []) (c.in_ok-make_row.ensures ∙ ap (λ n. row_of a.columns.now a.clock n e.0 e.1) c.count_refs-refs.ensures.count))
    ∙ listed-more f (passes a.clock a.tickets.now a.choice.now) (stays a.clock a.tickets.now) a.records.now c.loop-entry.entry-index e c.loop-entry.rows.items
    c.loop-entry-test.true c.entry-item.is (sym c.is_live.ensures ∙ c.if-not-is_live.false) (sym c.passes.ensures ∙ c.if-not-passes.false)
    ∙ c.loop-entry.invariant
