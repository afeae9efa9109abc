-- The texts of a listing.
use Rattle.std.specs.Prelude.{◌==◌, ℕ, List, ◌++◌, codes, decimal, if◌then◌else◌}
use Rattle.std.specs.List.{flat_map, find}
use Rattle.std.specs.Option.{option_map_or}
use Rattle.stick_key.specs.KeyText.{text as key_text}
use Rattle.stick_key.specs.declared.kind.KeyType.{KeyType}
use Rattle.stick_key.specs.declared.kind.KeyType.TheVariants.{Ip, Ipv6, Integer, Text, Binary}
use Rattle.stored_data.specs.Data.{place, name, is_rate, is_array}
use Rattle.stored_data.specs.declared.datum.Datum.{Datum}
use Rattle.stored_data.specs.declared.field.Field.{Field}
use Rattle.stored_data.specs.declared.stored_set.Column.{Column}
use Rattle.stick_model.specs.declared.rows.Cell.{Cell}
use Rattle.stick_model.specs.declared.rows.Row.{Row}

-- the word for a kind of key
abbrev pub kind_word : KeyType → List ℕ
kind_word Ip = codes "ip"
kind_word Ipv6 = codes "ipv6"
kind_word Integer = codes "integer"
kind_word (Text n) = codes "string"
kind_word (Binary n) = codes "binary"

-- # table: T, type: TYPE, size:S, used:U
abbrev pub header_text : List ℕ → KeyType → ℕ → ℕ → List ℕ
header_text table kind size used =
    codes "# table: " ++ table ++ codes ", type: " ++ kind_word kind ++ codes ", size:" ++ decimal size ++ codes ", used:" ++ decimal used ++ codes "\n"

-- the period of a datum's column
abbrev pub period_of : List Column → Datum → ℕ
period_of columns datum = option_map_or (λ (column : Column). column.period) (find (λ (column : Column). place column.datum == place datum) columns) 0

-- a field's name: that of a rate with its period in ms, that of an element with its index
abbrev pub field_text : List Column → Field → List ℕ
field_text columns field =
    if is_rate field.datum then name field.datum ++ codes "(" ++ decimal (period_of columns field.datum) ++ codes ")"
    else (if is_array field.datum then name field.datum ++ codes "[" ++ decimal field.index ++ codes "]"
    else name field.datum)

-- NAME=VALUE, behind a space
abbrev pub cell_text : List Column → Cell → List ℕ
cell_text columns cell = codes " " ++ field_text columns cell.field ++ codes "=" ++ decimal cell.value

-- 0x0: key=KEY use=REFS exp=LEFT, and the fields
abbrev pub row_text : KeyType → List Column → Row → List ℕ
row_text kind columns row =
    codes "0x0: key=" ++ key_text kind row.key ++ codes " use=" ++ decimal row.refs ++ codes " exp=" ++ decimal row.left ++ flat_map (cell_text columns) row.cells ++ codes "\n"
