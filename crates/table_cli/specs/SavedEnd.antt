-- The last line of a saved file, which says how many entries it has, so that a file that is cut is told.
use Rattle.std.specs.Prelude.{ℕ, ◌+◌, ◌==◌, nat_eq, Bool, true, false, not, ◌&&◌, ◌||◌, Option, Some, None, List, [], ◌++◌, length, drop, fold, codes, decimal, if◌then◌else◌}
use Rattle.std.specs.List.{starts_with}
use Rattle.base_lines.specs.Line.{without_cr}
use Rattle.base_lines.specs.Number.{number_of}
use Rattle.base_lines.specs.Parts.{is_line_end, parts}
use Rattle.table_cli.specs.SavedLines.{FaultAt, Cut, Miscounted, Line, Passed, Makes, Wrong, line_of}

-- ---- what is written

-- the first line, by which such a file is known
abbrev pub first_text : List ℕ
first_text = codes "# saved by stickd, and whole if its last line says how many entries it has\n"

-- what stands before the number on the last line
abbrev pub mark : List ℕ
mark = codes "# entries: "

-- the last line of a file of so many entries
abbrev pub last_text : ℕ → List ℕ
last_text count = mark ++ decimal count ++ codes "\n"

-- ---- what is read

abbrev pub begins : List ℕ → List ℕ → Bool
begins prefix text = starts_with nat_eq text prefix

-- a text that begins as such a file, or that is cut within its first line
abbrev pub promises_end : List ℕ → Bool
promises_end text = not (length text == 0) && (begins first_text text || begins text first_text)

abbrev pub is_said : Line → Bool
is_said Passed = false
is_said (Makes left table command) = true
is_said (Wrong fault) = true

-- whether a line is to make an entry: it is neither empty nor a comment
abbrev pub is_entry : List ℕ → Bool
is_entry line = is_said (line_of line)

-- the number that a last line says
abbrev pub number_on : List ℕ → Option ℕ
number_on line = if begins mark line then number_of (drop (length mark) line) else None

-- the lines so far: how many there are, how many are entries, which of them was the last that isn't empty, and that line
pub record Ending : Type 0 where
  pub lines : ℕ
  pub entries : ℕ
  pub last : ℕ
  pub text : List ℕ

abbrev pub no_lines : Ending
no_lines = record { lines = 0; entries = 0; last = 0; text = [] }

abbrev pub with_line : Ending → List ℕ → Ending
with_line so_far line = record {
  lines = so_far.lines + 1;
  entries = so_far.entries + (if is_entry line then 1 else 0);
  last = if length line == 0 then so_far.last else so_far.lines + 1;
  text = if length line == 0 then so_far.text else line;
}

abbrev pub ending_of : List ℕ → Ending
ending_of text = fold with_line no_lines (parts is_line_end text)

abbrev pub judged_by : Option ℕ → Ending → Option FaultAt
judged_by None ending = Some (record { line = ending.last; fault = Cut })
judged_by (Some said) ending = if said == ending.entries then None else Some (record { line = ending.last; fault = Miscounted said ending.entries })

-- why a file isn't whole, if it says that it is to be and isn't
abbrev pub judged : List ℕ → Option FaultAt
judged text = if promises_end text then judged_by (number_on (without_cr (ending_of text).text)) (ending_of text) else None
