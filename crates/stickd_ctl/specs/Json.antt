-- An answer as JSON.
use Rattle.std.specs.Prelude.{ℕ, Bool, nat_eq, ◌==◌, ◌-◌, Option, Some, None, is_some, List, [], ◌∷◌, ◌++◌, length, take, codes, decimal, if◌then◌else◌}
use Rattle.std.specs.List.{list_any, flat_map, ends_with}
use Rattle.base_lines.specs.Parts.{parts, first_part, is_byte, is_line_end}
use Rattle.stickd_ctl.specs.Lines.{HeaderText, header_of, is_row, key_of, number_of_word, words}
use Rattle.stickd_ctl.specs.Strings.{string_text}
use Rattle.stickd_ctl.specs.declared.json.Written.{Written}
use Rattle.stickd_ctl.specs.declared.json.Written.TheVariants.{Nothing, Table, Entry, Other}

-- what parts a new object of the array from what was written last
abbrev pub between : Written → List ℕ
between Nothing = codes "[\n"
between Table = codes "]},\n"
between Entry = codes "]},\n"
between Other = codes ",\n"

-- what ends the array
abbrev pub ending : Written → List ℕ
ending Nothing = codes "[]\n"
ending Table = codes "]}\n]\n"
ending Entry = codes "]}\n]\n"
ending Other = codes "\n]\n"

-- a table's object, up to its entries
abbrev pub header_json : List ℕ → List ℕ → ℕ → ℕ → List ℕ
header_json name kind size used =
    codes "{\"name\": " ++ string_text name ++ codes ", \"type\": " ++ string_text kind ++ codes ", \"size\": " ++ decimal size
    ++ codes ", \"used\": " ++ decimal used ++ codes ", \"entries\": ["

-- the name of a word's number
abbrev pub name_of : List ℕ → List ℕ
name_of word = first_part (is_byte 61) word

-- the number of a word, 0 where it has none
abbrev pub or_zero : Option ℕ → ℕ
or_zero None = 0
or_zero (Some n) = n

abbrev pub number_or_zero : List ℕ → ℕ
number_or_zero word = or_zero (number_of_word word)

-- a number of an entry behind those before it, with its name
abbrev pub number_json : List ℕ → List ℕ
number_json word = codes ", " ++ string_text (name_of word) ++ codes ": " ++ decimal (number_or_zero word)

-- what stands behind an entry's address and key
abbrev pub numbers_in : List (List ℕ) → List (List ℕ)
numbers_in (address ∷ key ∷ numbers) = numbers
numbers_in _ = []

abbrev pub numbers_of : List ℕ → List (List ℕ)
numbers_of line = numbers_in (words line)

-- an entry's object
abbrev pub row_json : List ℕ → List ℕ
row_json line = codes "{\"key\": " ++ string_text (key_of line) ++ flat_map number_json (numbers_of line) ++ codes "}"

-- an object that has nothing but a text
abbrev pub answer_json : List ℕ → List ℕ
answer_json answer = codes "{\"answer\": " ++ string_text answer ++ codes "}"

-- a line as it came
abbrev pub plain_json : Written → List ℕ → List ℕ
plain_json last line = between last ++ answer_json line

-- an entry belongs to the table before it; where there is none, it is a line as it came
abbrev pub entry_json : Written → List ℕ → List ℕ
entry_json Table line = codes "\n" ++ row_json line
entry_json Entry line = codes ",\n" ++ row_json line
entry_json Nothing line = plain_json Nothing line
entry_json Other line = plain_json Other line

abbrev pub entry_written : Written → Written
entry_written Table = Entry
entry_written Entry = Entry
entry_written Nothing = Other
entry_written Other = Other

-- a line that is no table's
abbrev pub other_json : Written → List ℕ → List ℕ
other_json last line = if is_row line then entry_json last line else plain_json last line

abbrev pub other_written : Written → List ℕ → Written
other_written last line = if is_row line then entry_written last else Other

-- a line by what it says as a table's
abbrev pub headed_json : Written → List ℕ → Option HeaderText → List ℕ
headed_json last line None = other_json last line
headed_json last line (Some header) = between last ++ header_json header.name header.kind header.size header.used

abbrev pub headed_written : Written → List ℕ → Option HeaderText → Written
headed_written last line None = other_written last line
headed_written last line (Some header) = Table

-- what stands for a line in the array: nothing for an empty one, which parts answers
abbrev pub line_json : Written → List ℕ → List ℕ
line_json last line = if length line == 0 then [] else headed_json last line (header_of line)

abbrev pub written_by : Written → List ℕ → Written
written_by last line = if length line == 0 then last else headed_written last line (header_of line)

-- line by line, in order
abbrev pub lines_json : Written → List (List ℕ) → List ℕ
lines_json last [] = ending last
lines_json last (line ∷ lines) = line_json last line ++ lines_json (written_by last line) lines

abbrev pub array_json : List ℕ → List ℕ
array_json answer = lines_json Nothing (parts is_line_end answer)

-- whether a line is a table's
abbrev pub is_table : List ℕ → Bool
is_table line = is_some (header_of line)

abbrev pub has_table : List ℕ → Bool
has_table answer = list_any is_table (parts is_line_end answer)

-- without the line end and the empty line that end an answer
abbrev pub without_end : List ℕ → List ℕ
without_end answer =
    if ends_with nat_eq answer (codes "\n\n") then take (length answer - 2) answer
    else (if ends_with nat_eq answer (codes "\n") then take (length answer - 1) answer
    else answer)

-- the array where a line is a table's, else an object with the text
abbrev pub json : List ℕ → List ℕ
json answer = if has_table answer then array_json answer else answer_json (without_end answer) ++ codes "\n"
