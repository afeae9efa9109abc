-- The cells of a row, one field after another.
use Rattle.std.proofs.Common.{◌≡◌, ℕ, ◌+◌, ◌<◌, sym, ◌∙◌, ap, append_assoc, List, [], ◌∷◌, ◌++◌, length, map, take, get_or, Option, Some, slice_get, unwrap_or}
use Rattle.std.proofs.lemmas.List.{map_push, take_more}
use Rattle.std.proofs.lemmas.Option.{slice_get-get_or}
use Rattle.stored_data.specs.Acts.{value_at}
use Rattle.stored_data.specs.Fields.{fields_of}
use Rattle.stored_data.specs.declared.field.Field.{Field}
use Rattle.stored_data.specs.declared.stored_set.Column.{Column}
use Rattle.stored_data.specs.declared.values.StoredValue.{StoredValue}
use Rattle.stick_model.specs.Gathered.{cell_of}
use Rattle.stick_model.specs.declared.rows.Cell.{Cell}

-- the cells so far, and that of one field more
pub cells-more : (columns : List Column) (clock refs : ℕ) (values : List StoredValue) (fields : List Field) (place : ℕ) (d : Field) (shown : Option ℕ) (value : ℕ) (old far new : List Cell)
    → fields ≡ fields_of columns → place < length fields
    → ((field : Field) → slice_get (fields_of columns) place ≡ Some field → shown ≡ value_at values field clock)
    → value ≡ unwrap_or shown refs
    → far ≡ old ++ map (cell_of clock refs values) (take place fields)
    → new ≡ far ++ record { field = get_or fields place d; value = value } ∷ []
    → new ≡ old ++ map (cell_of clock refs values) (take (place + 1) fields)
cells-more columns clock refs values fields place d shown value old far new own within shows is so_far pushed =
    let show : Field → Cell = cell_of clock refs values in
    let field : Field = get_or fields place d in
    let here : slice_get (fields_of columns) place ≡ Some field = ap (λ all. slice_get all place) (sym own) ∙ slice_get-get_or fields place d within in
    let before : List Cell = map show (take place fields) in
    let cell : ℕ → Cell = λ value. record { field = field; value = value } in
    pushed
    ∙ ap (λ cells. cells ++ cell value ∷ []) so_far
    ∙ ap (λ value. (old ++ before) ++ cell value ∷ []) (is ∙ ap (λ seen. unwrap_or seen refs) (shows field here))
    ∙ append_assoc old before (show field ∷ [])
    ∙ ap (λ cells. old ++ cells) (sym (map_push show (take place fields) field))
    ∙ ap (λ all. old ++ map show all) (sym (take_more fields place d within))
