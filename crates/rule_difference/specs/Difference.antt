-- What lines of a configuration say that no line of another says.
use Rattle.std.specs.Prelude.{ℕ, ◌+◌, ◌-◌, Bool, true, false, not, ◌&&◌, if◌then◌else◌, List, [], ◌∷◌, drop}
use Rattle.std.specs.List.{list_any}
use Rattle.std.specs.Str.{bytes_eq}
use Rattle.rule_words.specs.Lines.{before_comment, first_word, lines_of, words_of}

-- the same words in the same order
abbrev pub same_words : List (List ℕ) → List (List ℕ) → Bool
same_words [] [] = true
same_words [] (other ∷ others) = false
same_words (word ∷ words) [] = false
same_words (word ∷ words) (other ∷ others) = bytes_eq word other && same_words words others

-- a line without words says nothing
abbrev pub says_nothing : List (List ℕ) → Bool
says_nothing [] = true
says_nothing (word ∷ words) = false

-- whether two lines say the same: blanks between words and comments don't count
abbrev pub says_same : List ℕ → List ℕ → Bool
says_same line other = same_words (words_of line) (words_of other)

-- a line that says something which none of these lines says
abbrev pub is_beyond : List (List ℕ) → List ℕ → Bool
is_beyond others line = not (says_nothing (words_of line)) && not (list_any (says_same line) others)

-- the numbers of such lines, where the first has this number
abbrev pub numbers_beyond : List (List ℕ) → ℕ → List (List ℕ) → List ℕ
numbers_beyond others number [] = []
numbers_beyond others number (line ∷ more) = if is_beyond others line then number ∷ numbers_beyond others (number + 1) more else numbers_beyond others (number + 1) more

-- the numbers of the lines of a text that say what no line of another text says: a text's first line has the number 1
abbrev pub beyond : List ℕ → List ℕ → List ℕ
beyond text other = numbers_beyond (lines_of other) 1 (lines_of text)

-- the line of this number, without its comment; nothing where there is none
abbrev pub line_at : List ℕ → ℕ → List ℕ
line_at text number = before_comment (first_word (drop (number - 1) (lines_of text)))
