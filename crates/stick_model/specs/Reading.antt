-- What a contract sees of rows to read.
use Rattle.std.specs.Prelude.{List}
use Rattle.stick_model.specs.declared.rows.Row.{Row}
use Rattle.stick_model.specs.declared.listed_rows.Reading.{Reading}
use Rattle.stick_model.specs.declared.listed_rows.Reading.TheVariants.{Lent, Made}
use Rattle.stick_model.specs.declared.listed_rows.InPlace.{InPlace}
use Rattle.stick_model.specs.declared.listed_rows.InPlace.TheVariants.{Shown, Packed}

-- the rows, in the order in which they are shown
abbrev pub rows_read : Reading → List Row
rows_read (Lent rows) = rows.now
rows_read (Made rows) = rows

-- and of rows that are read where they lie
abbrev pub rows_in_place : InPlace → List Row
rows_in_place (Shown rows) = rows.now
rows_in_place (Packed rows) = rows.items
