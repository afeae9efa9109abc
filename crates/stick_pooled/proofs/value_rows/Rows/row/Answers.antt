use Rattle.std.proofs.Common.{◌∙◌, ap, sym, length}
use Rattle.stick_pooled.specs.Grid.{Grid}
use Rattle.stick_pooled.proofs.CutLemmas.{lies, read-as}
use Rattle.stick_pooled.proofs.value_rows.Rows.row.Goals as goal

pub row_in-requires : goal.row_in-requires
row_in-requires c =
    let r = c.self.inside in
    lies r.columns r.count r.width c.args.at _ r.words.items c.args.self.now c.self.view_is c.requires (ap length c.as_slice.ensures.value ∙ c.self.invariant.1)

pub returns-clause-data : goal.returns-clause-data
returns-clause-data c =
    let r = c.self.inside in
    let row = rw c.as_slice.ensures.value at c.row_in.ensures.row in
    read-as r.columns c.args.self.now.columns r.count r.width c.args.at r.words.items c.row_in.result.now c.args.self.now c.self.view_is c.requires (ap (λ (g : Grid). g.columns) (sym c.self.view_is)) row
