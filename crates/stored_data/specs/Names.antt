-- The data by their names, and by those of their fetches.
use Rattle.std.specs.Prelude.{ℕ, Bool, false, Option, Some, None, List}
use Rattle.std.specs.List.{find}
use Rattle.std.specs.Str.{bytes_eq}
use Rattle.stored_data.specs.Data.{all_data, row, name}
use Rattle.stored_data.specs.declared.datum.Datum.{Datum}

-- the datum of a name
unfoldable pub datum_of : List ℕ → Option Datum
datum_of text = find (λ datum. bytes_eq (name datum) text) all_data

-- whether there is a name, and it is this text
abbrev pub is_named : Option (List ℕ) → List ℕ → Bool
is_named (Some name) text = bytes_eq name text
is_named None text = false

-- whether fetches of this name read the datum
abbrev pub is_read_by : List ℕ → Datum → Bool
is_read_by text datum = is_named (row datum).fetch text

-- the datum that fetches of this name read
abbrev pub datum_read_by : List ℕ → Option Datum
datum_read_by text = find (is_read_by text) all_data
