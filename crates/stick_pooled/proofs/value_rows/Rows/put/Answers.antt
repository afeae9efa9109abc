use Rattle.std.proofs.Common.{◌∙◌, ap}
use Rattle.stored_data.specs.Acts.{with_value}
use Rattle.stick_pooled.proofs.CutLemmas.{lies, read, write, sized-write}
use Rattle.stick_pooled.proofs.value_rows.Rows.put.Goals as goal

pub put_in-requires-clause-within : goal.put_in-requires-clause-within
put_in-requires-clause-within c =
    let r = c.self.inside in
    lies r.columns r.count r.width c.args.at _ r.words.items c.args.self.now c.self.view_is c.requires c.self.invariant.1

pub invariant_of-self : goal.invariant_of-self
invariant_of-self c =
    let r = c.self.inside in
    (c.self.invariant.0, sized-write r.columns r.count r.width c.args.at r.words.items c.put_in.new.words.items c.args.self.now c.self.view_is c.requires c.self.invariant.1 c.put_in.ensures.sized c.put_in.ensures.elsewhere)

pub returns : goal.returns
returns c =
    let r = c.self.inside in
    let shows = rw c.columns.ensures.columns at c.put_in.ensures.data in
    write r.columns r.count r.width c.args.at r.words.items c.put_in.new.words.items (with_value _ c.args.field c.args.value) c.args.self.now c.self.view_is c.requires c.self.invariant.1 c.put_in.ensures.sized c.put_in.ensures.elsewhere
    (shows ∙ ap (λ fields. with_value fields c.args.field c.args.value) (read r.columns r.count r.width c.args.at r.words.items c.args.self.now c.self.view_is c.requires))
