-- What a contract sees of `Rows`.
use Rattle.std.specs.Prelude.{List}
use Rattle.std.specs.List.{flat_map}
use Rattle.stick_model.specs.Gathered.{Gathered, in_key_order}
use Rattle.stick_model.specs.declared.rows.Row.{Row}
use Rattle.stick_model.specs.declared.listed_rows.Form.{Form}
use Rattle.stick_model.specs.declared.listed_rows.Form.TheVariants.{Shown, Packed, Merged}

-- the rows of tables one behind another, those of each in the order of their keys
abbrev pub each_in_order : List Gathered → List Row
each_in_order parts = flat_map (λ (g : Gathered). in_key_order g.rows) parts

-- the rows of all tables, in the order in which they came
abbrev pub of_all : List Gathered → List Row
of_all parts = flat_map (λ (g : Gathered). g.rows) parts

-- the rows, in the order in which they are shown
abbrev pub rows_of : Form → List Row
rows_of (Shown rows) = rows
rows_of (Packed parts) = each_in_order parts.items
rows_of (Merged parts) = in_key_order (of_all parts.items)
