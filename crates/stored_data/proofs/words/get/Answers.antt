use Rattle.std.proofs.Common.{◌≡◌, ◌+◌, ◌∙◌, Some, ap, sym, arith, drop, get_or, true, false}
use Rattle.std.specs.Prelude.{find, if◌then◌else◌}
use Rattle.std.specs.Option.{option_map}
use Rattle.std.proofs.lemmas.Grind.{common_steps}
use Rattle.stored_data.specs.Acts.{shown}
use Rattle.stored_data.specs.Fields.{element, elements, same_field}
use Rattle.stored_data.specs.Words.{fields_from, is_kept_in, taken, words_of}
use Rattle.stored_data.specs.declared.stored_set.Column.{Column}
use Rattle.stored_data.specs.declared.values.StoredValue.{StoredValue}
use Rattle.stored_data.proofs.WordColumns.{inside_column, width-at}
use Rattle.stored_data.proofs.Elements.{no_column}
use Rattle.stored_data.proofs.WordFinds.{tests_of, find-here, find-next}
use Rattle.stored_data.proofs.words.get.Goals as goal

pub shown_at-requires-clause-within : goal.shown_at-requires-clause-within
shown_at-requires-clause-within c =
    let is : is_kept_in (get_or c.args.columns.now c.loop-column.column-index no_column) c.args.field ≡ true = sym c.is_kept_in.ensures ∙ c.if-is_kept_in.true in
    let tests = tests_of (get_or c.args.columns.now c.loop-column.column-index no_column) c.args.field is in
    let inside = inside_column (get_or c.args.columns.now c.loop-column.column-index no_column) c.args.field.index tests.0 tests.1 in
    let more = width-at c.args.columns.now c.loop-column.column-index no_column (omega arith) in
    let column : Column = get_or c.args.columns.now c.loop-column.column-index no_column in
    let own : words_of (element column c.args.field.index) ≡ taken column.datum = ap (λ b. if b then taken column.datum else 0) tests.0 in
    omega (arith, own, inside, more, c.loop-column.invariant.within, c.requires.sized)

pub returns-then-is_kept_in : goal.returns-then-is_kept_in
returns-then-is_kept_in c =
    let is : is_kept_in (get_or c.args.columns.now c.loop-column.column-index no_column) c.args.field ≡ true = sym c.is_kept_in.ensures ∙ c.if-is_kept_in.true in
    ap (λ n. Some n) c.shown_at.ensures
    ∙ ap (λ found. option_map (shown c.args.now) (option_map (λ (stored : StoredValue). stored.content) found))
    (sym (find-here c.args.columns.now c.loop-column.column-index no_column c.args.field c.args.words.now c.loop-column.at (omega arith) is) ∙ c.loop-column.invariant.found)

pub loop-column-preserved : goal.loop-column-preserved
loop-column-preserved c =
    let none : is_kept_in (get_or c.args.columns.now c.loop-column.column-index no_column) c.args.field ≡ false = sym c.is_kept_in.ensures ∙ c.if-is_kept_in.false in
    let more = width-at c.args.columns.now c.loop-column.column-index no_column (omega arith) in
    record {
      found = ap (λ n. find (λ stored. same_field stored.field c.args.field) (fields_from (elements (drop (c.loop-column.column-index + 1) c.args.columns.now)) c.args.words.now (c.loop-column.at + n))) c.words_of-at.ensures
          ∙ sym (find-next c.args.columns.now c.loop-column.column-index no_column c.args.field c.args.words.now c.loop-column.at (omega arith) none) ∙ c.loop-column.invariant.found;
      within = omega (arith, c.loop-column.invariant.within, more, c.words_of-at.ensures);
      periods = grind (arith, common_steps);
    }
