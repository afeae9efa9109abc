use Rattle.std.proofs.Common.{sym, ◌∙◌}
use Rattle.stick_model.specs.Key.{same_key}
use Rattle.stick_model.specs.State.{stays}
use Rattle.stick_table.proofs.ListLemmas.{lookup-filter_hits}
use Rattle.stick_table.proofs.contents.records.find_live.Goals as goal

pub returns-then-is_live : goal.returns-then-is_live
returns-then-is_live c =
    sym (lookup-filter_hits (same_key c.args.key.now) (stays c.args.clock c.args.tickets.now) c.args.records.now c.loop-entry.entry-index c.entry-item.result c.loop-entry-test.true c.entry-item.is
    (sym c.is_live.ensures ∙ c.if-is_live.true) (sym c.is_same.ensures ∙ c.if-is_same.true))
    ∙ c.loop-entry.invariant
