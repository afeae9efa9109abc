use Rattle.std.proofs.Common.{◌∙◌, ap}
use Rattle.stored_data.specs.Acts.{acted, answer}
use Rattle.stick_pooled.proofs.CutLemmas.{lies, read, write, sized-write}
use Rattle.stick_pooled.proofs.value_rows.Rows.act.Goals as goal

pub act_in-requires-clause-within : goal.act_in-requires-clause-within
act_in-requires-clause-within c =
    let r = c.self.inside in
    lies r.columns r.count r.width c.args.at _ r.words.items c.args.self.now c.self.view_is c.requires c.self.invariant.1

pub invariant_of-self : goal.invariant_of-self
invariant_of-self c =
    let r = c.self.inside in
    (c.self.invariant.0, sized-write r.columns r.count r.width c.args.at r.words.items c.act_in.new.words.items c.args.self.now c.self.view_is c.requires c.self.invariant.1 c.act_in.ensures.sized c.act_in.ensures.elsewhere)

pub returns-clause-row : goal.returns-clause-row
returns-clause-row c =
    let r = c.self.inside in
    let shows = rw c.columns.ensures.columns at c.act_in.ensures.data in
    write r.columns r.count r.width c.args.at r.words.items c.act_in.new.words.items (acted _ c.args.now c.args.act) c.args.self.now c.self.view_is c.requires c.self.invariant.1 c.act_in.ensures.sized c.act_in.ensures.elsewhere
    (shows ∙ ap (λ fields. acted fields c.args.now c.args.act) (read r.columns r.count r.width c.args.at r.words.items c.args.self.now c.self.view_is c.requires))

pub returns-clause-answer : goal.returns-clause-answer
returns-clause-answer c =
    let r = c.self.inside in
    let shows = rw c.columns.ensures.columns at c.act_in.ensures.answer in
    shows ∙ ap (λ fields. answer fields c.args.now c.args.act) (read r.columns r.count r.width c.args.at r.words.items c.args.self.now c.self.view_is c.requires)
