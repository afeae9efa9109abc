use Rattle.std.proofs.Common.{sym, ◌∙◌}
use Rattle.stick_model.specs.State.{is_tracked}
use Rattle.stick_table.proofs.ListLemmas.{list_all-fails}
use Rattle.stick_table.proofs.contents.room.all_tracked.Goals as goal

pub returns-then-not-is_tracked : goal.returns-then-not-is_tracked
returns-then-not-is_tracked c =
    sym (list_all-fails (λ e. is_tracked e.0 c.args.tickets.now) c.args.records.now c.loop-entry.entry-index c.entry-item.result c.loop-entry-test.true c.entry-item.is (sym c.is_tracked.ensures ∙ c.if-not-is_tracked.true))
    ∙ c.loop-entry.invariant
