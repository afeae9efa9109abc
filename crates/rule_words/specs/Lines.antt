-- The lines of a configuration, and the words of a line.
use Rattle.std.specs.Prelude.{ℕ, Bool, not, ◌||◌, ◌==◌, List, [], ◌∷◌, drop}
use Rattle.std.specs.List.{list_any}
use Rattle.base_lines.specs.Parts.{parts, first_part, is_byte, is_line_end}
use Rattle.base_lines.specs.Words.{words, is_blank}
use Rattle.base_lines.specs.Line.{without_cr}
use Rattle.base_lines.specs.declared.words.Blanks.TheVariants.{SpacesAndTabs}

-- a carriage return before a line's end is dropped; the last line has no end
abbrev pub without_crs : List (List ℕ) → List (List ℕ)
without_crs [] = []
without_crs (last ∷ []) = last ∷ []
without_crs (line ∷ next ∷ more) = without_cr line ∷ without_crs (next ∷ more)

-- the lines of a text, without their ends
abbrev pub lines_of : List ℕ → List (List ℕ)
lines_of text = without_crs (parts is_line_end text)

-- what stands before a comment, which begins with #
abbrev pub before_comment : List ℕ → List ℕ
before_comment line = first_part (is_byte 35) line

-- the words of a line, parted by spaces and tabs
abbrev pub words_of : List ℕ → List (List ℕ)
words_of line = words (is_blank SpacesAndTabs) (before_comment line)

-- a quote, an apostrophe, a backslash or $
abbrev pub is_quoting : ℕ → Bool
is_quoting b = (b == 34) || (b == 39) || (b == 92) || (b == 36)

-- a line without such a byte outside its comment
abbrev pub is_plain : List ℕ → Bool
is_plain line = not (list_any is_quoting (before_comment line))

-- the first of some words; what is missing is empty
abbrev pub first_word : List (List ℕ) → List ℕ
first_word [] = []
first_word (word ∷ words) = word

-- the words behind the first
abbrev pub other_words : List (List ℕ) → List (List ℕ)
other_words words = drop 1 words
