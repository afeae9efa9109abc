use Rattle.stick_model.specs.Room.{is_purged}
use Rattle.std.proofs.Common.{◌+◌, ℕ, sym, ◌∙◌, ap, fold, drop, max, unwrap_or, Some, cond, Option}
use Rattle.std.proofs.lemmas.List.{at_drop_more}
use Rattle.stick_model.specs.Key.{Key}
use Rattle.stick_model.specs.declared.rows.Record.{Record}
use Rattle.stick_table.proofs.contents.room.purge_limit.Goals as goal

pub loop-entry-preserved : goal.loop-entry-preserved
loop-entry-preserved c =
    let xs = c.args.records.now in
    let f : Option ℕ → Key × Record → Option ℕ = λ limit entry. cond (is_purged c.args.purge c.args.tickets.now c.args.records.now entry) (Some (max (unwrap_or limit 0) entry.1.stamp)) limit in
    ap (λ l. fold f l (drop (c.loop-entry.entry-index + 1) xs))
    (c.raised-limit.ensures ∙ ap (λ b. cond b (Some (max (unwrap_or c.loop-entry.limit 0) c.entry-item.result.1.stamp)) c.loop-entry.limit) c.is_purged.ensures ∙ ap (f c.loop-entry.limit) c.entry-item.is)
    ∙ sym (at_drop_more (fold f c.loop-entry.limit) xs c.loop-entry.entry-index c.entry-item.result c.loop-entry-test.true)
    ∙ c.loop-entry.invariant
