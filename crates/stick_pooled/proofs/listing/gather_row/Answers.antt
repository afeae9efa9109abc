use Rattle.std.proofs.Common.{◌∙◌, ap, sym, ℕ, List}
use Rattle.std.proofs.lemmas.Result.{on_ok_weaker}
use Rattle.stored_data.specs.declared.stored_set.Column.{Column}
use Rattle.stored_data.specs.declared.values.StoredValue.{StoredValue}
use Rattle.stored_data.specs.Words.{fields_in, width}
use Rattle.stick_model.specs.declared.rows.Row.{Row}
use Rattle.stick_model.specs.Gathered.{row_with, with_row}
use Rattle.stick_pooled.specs.Seen.{cells_of}
use Rattle.stick_pooled.proofs.RowLemmas.{row-is}
use Rattle.stick_pooled.proofs.listing.gather_row.Goals as goal

pub push-requires : goal.push-requires
push-requires c = c.words.ensures.sized ∙ ap width (sym c.requires.columns)

pub returns : goal.returns
returns c = on_ok_weaker c.push.result (λ (pushed : _). λ held there.
    let g = c.args.rows.now in
    let refs : ℕ = c.entry-entry.result.refs in
    let values : List StoredValue = fields_in g.columns c.words.result.now in
    let shows = ap (λ (columns : List Column). fields_in columns c.words.result.now) c.requires.columns ∙ c.words.ensures.data held there in
    let cells = ap (λ (values : List StoredValue). cells_of g.columns c.args.clock refs values) shows in
    pushed
    ∙ ap (λ clock. with_row g (row_with g.columns clock c.key.result.now refs c.left_at-left.result values)) c.requires.clock
    ∙ ap (λ (row : Row). with_row g row)
    (row-is g.columns c.args.expire c.args.clock c.args.slot c.args.store.now held c.entry-entry.result c.key.result.now c.left_at-left.result (cells_of g.columns c.args.clock refs values) there c.entry-entry.ensures c.key.ensures c.left_at-left.ensures cells)) c.push.ensures.ok
