-- Worked examples of the names of fields, which the checker computes.
use Rattle.std.specs.Prelude.{refl, ◌≡◌, codes, Some, None}
use Rattle.base_lines.specs.Number.{number_of}
use Rattle.stored_data.specs.Names.{datum_of}
use Rattle.stored_data.specs.declared.datum.Datum.TheVariants.{ConnCur, Gpc, Gpt}
use Rattle.table_texts.specs.FieldNames.{field_of}

field-datum : field_of (codes "conn_cur") ≡ Some (record { datum = ConnCur; index = 0 })
unfolding datum_of number_of
field-datum = refl

field-element : field_of (codes "gpc[1]") ≡ Some (record { datum = Gpc; index = 1 })
unfolding datum_of number_of
field-element = refl

field-greatest_index : field_of (codes "gpt[4294967295]") ≡ Some (record { datum = Gpt; index = 4294967295 })
unfolding datum_of number_of
field-greatest_index = refl

field-index_too_great : field_of (codes "gpt[4294967296]") ≡ None
unfolding datum_of number_of
field-index_too_great = refl

field-array_without_index : field_of (codes "gpc") ≡ None
unfolding datum_of number_of
field-array_without_index = refl

field-datum_with_index : field_of (codes "gpc0[0]") ≡ None
unfolding datum_of number_of
field-datum_with_index = refl
