use Rattle.std.proofs.Common.{◌∙◌, arith, sym}
use Rattle.stored_data.specs.Data.{all_data}
use Rattle.stored_data.specs.Names.{is_read_by}
use Rattle.stored_data.proofs.FindNames.{find-drop}
use Rattle.stored_data.proofs.datum.read_fetch.Goals as goal

pub loop-datum-preserved : goal.loop-datum-preserved
loop-datum-preserved c =
    find-drop (is_read_by c.args.text.now) all_data c.loop-datum.datum-index _ (omega arith) (sym c.is_read_as.ensures ∙ c.if-is_read_as.false) ∙ c.loop-datum.invariant
