-- What changed since an answer came the last time.
use Rattle.std.specs.Prelude.{ℕ, nat_le, Bool, true, false, not, ◌==◌, ◌&&◌, ◌||◌, Option, None, Some, List, [], ◌∷◌, ◌++◌, length, codes, if◌then◌else◌}
use Rattle.std.specs.List.{list_any}
use Rattle.std.specs.Str.{bytes_eq}
use Rattle.base_lines.specs.Parts.{first_part, is_byte, is_line_end, parts}
use Rattle.stickd_ctl.specs.Lines.{number_of_word, words}

-- a number that isn't more than another one
abbrev pub is_no_more : Option ℕ → Option ℕ → Bool
is_no_more None now = false
is_no_more (Some before) None = false
is_no_more (Some before) (Some now) = nat_le now before

-- the word of what an entry's life has left
abbrev pub is_life : List ℕ → Bool
is_life word = bytes_eq (first_part (is_byte 61) word) (codes "exp")

-- whether a word says the same as before: of a life as much is left, or less
abbrev pub is_aged_word : List ℕ → List ℕ → Bool
is_aged_word before now =
    if bytes_eq before now then true
    else (if not (is_life before) || not (is_life now) then false
    else is_no_more (number_of_word before) (number_of_word now))

-- whether no words are left
abbrev pub are_over : List (List ℕ) → Bool
are_over words = length words == 0

-- whether words say the same as before, each as the one at its place
abbrev pub are_aged : List (List ℕ) → List (List ℕ) → Bool
are_aged others [] = are_over others
are_aged [] (word ∷ words) = false
are_aged (other ∷ others) (word ∷ words) = if is_aged_word other word then are_aged others words else false

abbrev pub is_aged : List ℕ → List ℕ → Bool
is_aged before now = are_aged (words before) (words now)

-- whether a line of a text says the same as this one
abbrev pub has_line : List ℕ → List ℕ → Bool
has_line text line = list_any (λ other. is_aged other line) (parts is_line_end text)

-- two blanks where a line of the last answer says the same, else an asterisk and a blank
abbrev pub mark_of : List ℕ → List ℕ → List ℕ
mark_of last line = if has_line last line then codes "  " else codes "* "

-- a line behind its mark
abbrev pub marked_line : List ℕ → List ℕ → List ℕ
marked_line last line = mark_of last line ++ line ++ 10 ∷ []

-- whether a line is an empty one behind the last line end
abbrev pub is_end : List ℕ → List (List ℕ) → Bool
is_end line lines = (length line == 0) && (length lines == 0)

-- lines behind their marks, but for an empty one at the end
abbrev pub marked_lines : List ℕ → List (List ℕ) → List ℕ
marked_lines last [] = []
marked_lines last (line ∷ lines) = if is_end line lines then [] else marked_line last line ++ marked_lines last lines

abbrev pub marked : List ℕ → List ℕ → List ℕ
marked last answer = marked_lines last (parts is_line_end answer)
