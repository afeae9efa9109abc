use Rattle.std.proofs.Common.{◌∙◌, ap}
use Rattle.stored_data.specs.Acts.{zero_of}
use Rattle.stick_pooled.specs.Grid.{Grid}
use Rattle.stick_pooled.proofs.CutLemmas.{lies, write, sized-write}
use Rattle.stick_pooled.proofs.value_rows.Rows.clear.Goals as goal

pub clear_in-requires : goal.clear_in-requires
clear_in-requires c =
    let r = c.self.inside in
    record { within = lies r.columns r.count r.width c.args.at _ r.words.items c.args.self.now c.self.view_is c.requires c.self.invariant.1 }

pub invariant_of-self : goal.invariant_of-self
invariant_of-self c =
    let r = c.self.inside in
    (c.self.invariant.0, sized-write r.columns r.count r.width c.args.at r.words.items c.clear_in.new.words.items c.args.self.now c.self.view_is c.requires c.self.invariant.1 c.clear_in.ensures.sized c.clear_in.ensures.elsewhere)

pub returns : goal.returns
returns c =
    let r = c.self.inside in
    let shows = rw c.columns.ensures.columns at c.clear_in.ensures.data in
    write r.columns r.count r.width c.args.at r.words.items c.clear_in.new.words.items (zero_of c.args.self.now.columns) c.args.self.now c.self.view_is c.requires c.self.invariant.1 c.clear_in.ensures.sized c.clear_in.ensures.elsewhere
    (shows ∙ ap (λ (g : Grid). zero_of g.columns) c.self.view_is)
