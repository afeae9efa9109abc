use Rattle.std.proofs.Common.{◌+◌, ◌≤◌, ◌∙◌, [], List, ap, length, subst, sym, unwrap_or}
use Rattle.stored_data.specs.Acts.{value_at}
use Rattle.stored_data.specs.Words.{fields_in}
use Rattle.stored_data.specs.declared.stored_set.Column.{Column}
use Rattle.stored_data.specs.declared.values.StoredValue.{StoredValue}
use Rattle.stick_model.proofs.CellLemmas.{cells-more}
use Rattle.stick_pooled.proofs.rows.fill_cells.Goals as goal

pub loop-place-preserved : goal.loop-place-preserved
loop-place-preserved c =
    let now = c.args.clock in
    record {
      shows = λ held there. cells-more c.args.columns.now now c.args.refs held.values c.fields-fields.result.now c.loop-place.place _ c.shown-shown.result c.unwrap_or.result [] c.loop-place.cells.items c.push_reserved.new.self.items
          c.fields-fields.ensures c.loop-place-test.true
          (λ field at. c.shown-shown.ensures field at ∙ ap (λ (values : List StoredValue). value_at values field now)
          (ap (λ (columns : List Column). fields_in columns c.words-words.result.now) (sym c.requires.columns) ∙ c.words-words.ensures.data held there))
          (c.unwrap_or.ensures ∙ ap (λ refs. unwrap_or c.shown-shown.result refs) c.from.ensures)
          (c.loop-place.invariant.shows held there) c.push_reserved.ensures.items;
      used = c.push_reserved.ensures.len ∙ ap (λ count. count + 1) c.loop-place.invariant.used;
      room = subst (λ capacity. length c.fields-fields.result.now ≤ capacity) (sym c.push_reserved.ensures.capacity) c.loop-place.invariant.room;
    }
