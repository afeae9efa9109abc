-- What a contract sees of a row that is printed.
use Rattle.stick_model.specs.declared.rows.Row.{Row}
use Rattle.table_texts.specs.declared.rows.Shown.{Shown}

abbrev pub shown_row : Shown → Row
shown_row shown = record { key = shown.key.now; refs = shown.refs; left = shown.left; cells = shown.cells.now }
