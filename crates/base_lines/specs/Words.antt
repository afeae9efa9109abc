-- The words of a line.
use Rattle.std.specs.Prelude.{ℕ, Bool, true, false, ◌||◌, ◌==◌, List, [], ◌∷◌, if◌then◌else◌}
use Rattle.std.specs.List.{filter}
use Rattle.base_lines.specs.declared.words.Blanks.{Blanks}
use Rattle.base_lines.specs.declared.words.Blanks.TheVariants.{Spaces, SpacesAndTabs}
use Rattle.base_lines.specs.Parts.{parts}

-- a space, or a tab where that is a blank too
abbrev pub is_blank : Blanks → ℕ → Bool
is_blank Spaces b = b == 32
is_blank SpacesAndTabs b = (b == 32) || (b == 9)

abbrev pub is_some_text : List ℕ → Bool
is_some_text [] = false
is_some_text (b ∷ bs) = true

-- the parts between blanks that aren't empty
abbrev pub words : (ℕ → Bool) → List ℕ → List (List ℕ)
words blank line = filter is_some_text (parts blank line)

-- from the first byte on that is no blank
abbrev pub after_blanks : (ℕ → Bool) → List ℕ → List ℕ
after_blanks blank [] = []
after_blanks blank (b ∷ bs) = if blank b then after_blanks blank bs else b ∷ bs

-- from the first blank on
abbrev pub from_blank : (ℕ → Bool) → List ℕ → List ℕ
from_blank blank [] = []
from_blank blank (b ∷ bs) = if blank b then b ∷ bs else from_blank blank bs

-- what stands behind the first word
abbrev pub behind_word : (ℕ → Bool) → List ℕ → List ℕ
behind_word blank line = from_blank blank (after_blanks blank line)

-- what is left of a line, and which bytes part its words
pub record LineRest : Type 0 where
  pub blanks : Blanks
  pub text : List ℕ

-- the words that are left
abbrev pub words_left : LineRest → List (List ℕ)
words_left rest = words (is_blank rest.blanks) rest.text

-- the same line behind its next word
abbrev pub after_word : LineRest → LineRest
after_word rest = record { blanks = rest.blanks; text = behind_word (is_blank rest.blanks) rest.text }
