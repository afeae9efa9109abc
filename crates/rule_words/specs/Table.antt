-- A line `stick-table`.
use Rattle.std.specs.Prelude.{ℕ, Bool, true, false, not, List, [], ◌∷◌, codes, is_some, option_map, Option, Some, None, Result, Ok, Err, if◌then◌else◌}
use Rattle.std.specs.Str.{bytes_eq}
use Rattle.base_lines.specs.Parts.{parts, is_byte}
use Rattle.base_lines.specs.Words.{is_some_text}
use Rattle.stick_key.specs.declared.kind.KeyType.{KeyType}
use Rattle.stick_key.specs.declared.kind.KeyType.TheVariants.{Ip, Ipv6, Integer, Text, Binary}
use Rattle.stored_data.specs.Data.{is_rate, is_array}
use Rattle.stored_data.specs.Names.{datum_of}
use Rattle.stored_data.specs.Stored.{is_column, is_excluded, with_column}
use Rattle.stored_data.specs.declared.datum.Datum.{Datum}
use Rattle.stored_data.specs.declared.stored_set.Column.{Column}
use Rattle.rule_model.specs.declared.faults.Fault.{Fault}
use Rattle.rule_model.specs.declared.faults.Fault.TheVariants.{UnknownKeyword, BadSize, UnknownType}
use Rattle.rule_model.specs.declared.sections.TableSpec.{TableSpec}
use Rattle.rule_model.specs.Reading.{◌>>=◌, demand}
use Rattle.base_lines.specs.Parentheses.{before_parenthesis, from_parenthesis, inside}
use Rattle.rule_words.specs.Numbers.{bounded_number, size_of, time_of}
use Rattle.rule_words.specs.declared.table.Settings.{Settings}

-- what has to be there, or a fault
abbrev pub found : {A : Type 0} → Option A → Fault → Result A Fault
found (Some x) fault = Ok x
found None fault = Err fault

-- ---- what is stored

-- the column of a datum, by what follows its name: for a rate its period in parentheses, for an array how many elements it has, 1 to 100, and for all else nothing
abbrev pub column_of : Datum → List ℕ → Result Column Fault
column_of datum text =
    if is_rate datum then (do
      inner ← found (inside text) UnknownType
      period ← time_of inner
      Ok (record { datum = datum; period = period; count = 0 }))
    else (if is_array datum then (do
      inner ← found (inside text) UnknownType
      count ← bounded_number 1 100 inner
      Ok (record { datum = datum; period = 0; count = count }))
    else (do
      ended ← demand (not (is_some_text text)) UnknownType
      Ok (record { datum = datum; period = 0; count = 0 })))

-- the columns, and one more, which none of them excludes
unfoldable pub with_item : List Column → List ℕ → Result (List Column) Fault
with_item columns text = do
  datum ← found (datum_of (before_parenthesis text)) UnknownType
  new ← demand (not (is_column columns datum)) UnknownType
  apart ← demand (not (is_excluded columns datum)) UnknownType
  column ← column_of datum (from_parenthesis text)
  Ok (with_column columns column)

abbrev pub with_items : List Column → List (List ℕ) → Result (List Column) Fault
with_items columns [] = Ok columns
with_items columns (text ∷ texts) = with_item columns text >>= (λ more. with_items more texts)

-- ---- what a line sets

-- each keyword with the word behind it: nopurge has none, and one that is missing is empty
abbrev pub pairs_of : List (List ℕ) → List (List ℕ × List ℕ)
pairs_of [] = []
pairs_of (word ∷ []) = (word, []) ∷ []
pairs_of (word ∷ value ∷ words) = if bytes_eq word (codes "nopurge") then (word, []) ∷ pairs_of (value ∷ words) else (word, value) ∷ pairs_of words

-- the kind of key of a name; texts and binary keys have 32 bytes where no length is said
unfoldable pub kind_of : List ℕ → Option KeyType
kind_of word =
    if bytes_eq word (codes "ip") then Some Ip
    else (if bytes_eq word (codes "ipv6") then Some Ipv6
    else (if bytes_eq word (codes "integer") then Some Integer
    else (if bytes_eq word (codes "string") then Some (Text 32)
    else (if bytes_eq word (codes "binary") then Some (Binary 32)
    else None))))

-- the kinds that have a length of their own
abbrev pub has_length : KeyType → Bool
has_length (Text n) = true
has_length (Binary n) = true
has_length Ip = false
has_length Ipv6 = false
has_length Integer = false

-- such a kind, of this length
abbrev pub with_length : ℕ → KeyType → KeyType
with_length length (Text n) = Text length
with_length length (Binary n) = Binary length
with_length length Ip = Ip
with_length length Ipv6 = Ipv6
with_length length Integer = Integer

abbrev pub no_settings : Settings
no_settings = record { kind = None; takes_length = false; size = None; expire = None; nopurge = false; columns = [] }

-- what stands once
abbrev pub once : {A : Type 0} → Option A → Result (Unit {0}) Fault
once set = demand (not (is_some set)) UnknownKeyword

-- what is set so far, and one more setting: a keyword with its value. A length stands right behind type string or type binary
unfoldable pub with_setting : Settings → List ℕ → List ℕ → Result Settings Fault
with_setting old word value =
    let settings = record old { takes_length = false } in
    if bytes_eq word (codes "type") then (do
      first ← once old.kind
      kind ← found (kind_of value) UnknownType
      Ok (record settings { kind = Some kind; takes_length = has_length kind }))
    else (if bytes_eq word (codes "len") then (do
      behind ← demand old.takes_length UnknownKeyword
      length ← bounded_number 1 1024 value
      Ok (record settings { kind = option_map (with_length length) old.kind }))
    else (if bytes_eq word (codes "size") then (do
      first ← once old.size
      size ← size_of value
      Ok (record settings { size = Some size }))
    else (if bytes_eq word (codes "expire") then (do
      first ← once old.expire
      time ← time_of value
      Ok (record settings { expire = Some time }))
    else (if bytes_eq word (codes "nopurge") then (do
      first ← demand (not old.nopurge) UnknownKeyword
      Ok (record settings { nopurge = true }))
    else (if bytes_eq word (codes "store") then (do
      columns ← with_items old.columns (parts (is_byte 44) value)
      Ok (record settings { columns = columns }))
    else Err UnknownKeyword)))))

abbrev pub with_settings : Settings → List (List ℕ × List ℕ) → Result Settings Fault
with_settings settings [] = Ok settings
with_settings settings ((word, value) ∷ pairs) = with_setting settings word value >>= (λ next. with_settings next pairs)

-- type and size have to be there
abbrev pub complete : Settings → Result TableSpec Fault
complete settings = do
  kind ← found settings.kind UnknownType
  size ← found settings.size BadSize
  Ok (record { kind = kind; size = size; expire = settings.expire; nopurge = settings.nopurge; columns = settings.columns })

-- the table that the words behind stick-table declare
unfoldable pub table_of : List (List ℕ) → Result TableSpec Fault
table_of words = with_settings no_settings (pairs_of words) >>= complete
