use Rattle.std.proofs.Common.{All, ◌∷◌, [], sym, subst}
use Rattle.std.proofs.lemmas.List.Elements.{All-append, All-cons, All-nil}
use Rattle.table_texts.specs.Labels.{IsLabel}
use Rattle.table_texts.proofs.labels.labels_of.Goals as goal

pub loop-field-preserved : goal.loop-field-preserved
loop-field-preserved c =
    let Fits = IsLabel c.args.columns.now in
    let more = All-append Fits c.loop-field.labels.items (c.in_ok-label_of.field-0 ∷ []) c.loop-field.invariant (All-cons Fits c.in_ok-label_of.field-0 [] c.in_ok-label_of.ensures (All-nil Fits)) in
    subst (All Fits) (sym c.in_ok-push.ensures.items) more
