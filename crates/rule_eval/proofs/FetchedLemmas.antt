-- What is read of a row is what the table shows of the field that is meant.
use Rattle.std.proofs.Common.{◌≡◌, ◌∙◌, ℕ, Bool, true, false, List, [], ◌∷◌, Option, Some, None, map, ap, refl, cond, unwrap_or}
use Rattle.std.specs.List.{list_any}
use Rattle.std.specs.Option.{option_and_then, option_or}
use Rattle.stored_data.specs.Acts.{value_at}
use Rattle.stored_data.specs.Fields.{Element, elements, field_for, fields_of, if_stored, is_field, plain, same_field, stand_in}
use Rattle.stored_data.specs.declared.datum.Datum.{Datum}
use Rattle.stored_data.specs.declared.field.Field.{Field}
use Rattle.stored_data.specs.declared.stored_set.Column.{Column}
use Rattle.stored_data.proofs.Elements.{is_field-elements}
use Rattle.stored_data.proofs.SameFields.{same_field-is}
use Rattle.stick_model.specs.State.{shown}
use Rattle.stick_model.specs.declared.rows.Cell.{Cell}
use Rattle.stick_model.specs.declared.rows.Record.{Record}
use Rattle.rule_eval.specs.Fetched.{DatumLaw, ElementLaw}
use Rattle.rule_eval.specs.Readings.{field_in, value_in}

module _ (clock count : ℕ) (found : Record) where
  -- the cells that are shown of elements
  abbrev pub cells_of : List Element → List Cell
  cells_of all = map (shown clock count found) (map (λ (one : Element). one.field) all)

  -- what is shown of a field that is an element's, and nothing of one that is not
  abbrev pub shows : Bool → Field → Option ℕ
  shows here field = cond here (Some (unwrap_or (value_at found.values field clock) count)) None

  cells-show : (all : List Element) (field : Field) → field_in (cells_of all) field ≡ shows (list_any (λ (one : Element). same_field one.field field) all) field
  cells-show [] field = refl
  cells-show (one ∷ all) field = step (cells-show all field) (same_field one.field field) refl
    where
      step : field_in (cells_of all) field ≡ shows (list_any (λ (other : Element). same_field other.field field) all) field
          → (here : Bool) → same_field one.field field ≡ here → field_in (cells_of (one ∷ all)) field ≡ shows (list_any (λ (other : Element). same_field other.field field) (one ∷ all)) field
      step later true is = rw is (ap (λ f. Some (unwrap_or (value_at found.values f clock) count)) (same_field-is one.field field is))
      step later false is = rw is later

  -- of the fields of columns
  pub row-shows : (columns : List Column) (field : Field) → field_in (map (shown clock count found) (fields_of columns)) field ≡ shows (is_field columns field) field
  row-shows columns field = cells-show (elements columns) field ∙ ap (λ b. shows b field) (is_field-elements columns field)

  -- a field's own value, where it is stored
  one-shows : (columns : List Column) (field other : Field) (b : Bool) → is_field columns field ≡ b → cond b (Some field) None ≡ Some other
      → (field_in (map (shown clock count found) (fields_of columns)) field ≡ Some (unwrap_or (value_at found.values other clock) count)) × (b ≡ true)
  one-shows columns field other true is e = (row-shows columns field ∙ ap (λ b. shows b field) is ∙ ap (λ f. Some (unwrap_or (value_at found.values f clock) count)) same, refl)
    where
      same : field ≡ other
      same = cc
  one-shows columns field other false is e = cc

  datum-shows : (columns : List Column) (datum : Datum) (field : Field) → field_for columns datum ≡ Some field
      → value_in (map (shown clock count found) (fields_of columns)) datum ≡ unwrap_or (value_at found.values field clock) count
  datum-shows columns datum field e = own (is_field columns (plain datum)) refl e
    where
      Cells : List Cell
      Cells = map (shown clock count found) (fields_of columns)

      element : (stand : Option Field) → option_and_then (if_stored columns) stand ≡ Some field
          → unwrap_or (option_and_then (field_in Cells) stand) 0 ≡ unwrap_or (value_at found.values field clock) count
      element None e = cc
      element (Some one) e = ap (λ (value : Option ℕ). unwrap_or value 0) (one-shows columns one field (is_field columns one) refl e).0

      own : (b : Bool) → is_field columns (plain datum) ≡ b → option_or (cond b (Some (plain datum)) None) (option_and_then (if_stored columns) (stand_in datum)) ≡ Some field
          → value_in Cells datum ≡ unwrap_or (value_at found.values field clock) count
      own true is e =
          ap (λ (value : Option ℕ). unwrap_or (option_or value (option_and_then (field_in Cells) (stand_in datum))) 0) (one-shows columns (plain datum) field true is e).0
      own false is e =
          ap (λ (value : Option ℕ). unwrap_or (option_or value (option_and_then (field_in Cells) (stand_in datum))) 0) (row-shows columns (plain datum) ∙ ap (λ b. shows b (plain datum)) is)
          ∙ element (stand_in datum) e

pub datum_lem : DatumLaw
datum_lem columns clock count key found datum field e = datum-shows clock count found columns datum field e

pub element_lem : ElementLaw
element_lem columns clock count key found field e = ap (λ (value : Option ℕ). unwrap_or value 0) (row-shows clock count found columns field ∙ ap (λ b. shows clock count found b field) e)
