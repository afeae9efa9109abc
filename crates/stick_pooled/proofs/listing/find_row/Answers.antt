use Rattle.std.proofs.Common.{◌++◌, ◌∷◌, [], sym, ◌∙◌, ap}
use Rattle.stick_model.specs.Gathered.{Gathered}
use Rattle.stick_model.specs.State.{row_of}
use Rattle.stick_pooled.specs.Shown.{record_of}
use Rattle.stick_pooled.proofs.OneRowLemmas.{gone-listed, one-listed}
use Rattle.stick_pooled.proofs.listing.find_row.Goals as goal

pub returns-in_default : goal.returns-in_default
returns-in_default c =
    ap (λ (g : Gathered). g.rows) c.in_ok-rows.ensures ∙ sym (gone-listed c.args.spec.now.columns c.args.spec.now.expire c.args.clock c.args.store.now c.args.key.now c.in_default.ensures.gone)

pub returns : goal.returns
returns c =
    let l = c.in-Some.ensures.live in
    ap (λ (g : Gathered). g.rows) (c.in_ok-gather_row.ensures l.held l.there)
    ∙ ap (λ (g : Gathered). g.rows ++ row_of g.columns c.args.clock l.held.entry.refs l.held.key (record_of c.args.spec.now.expire l.held) ∷ []) c.in_ok-rows.ensures
    ∙ sym (one-listed c.args.spec.now.columns c.args.spec.now.expire c.args.clock c.args.store.now c.args.key.now c.requires.stock c.in-Some.at l.held l.there l.keyed l.kept)
