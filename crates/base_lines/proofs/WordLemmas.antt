-- The words of a line, one after another.
use Rattle.std.proofs.Common.{◌≡◌, ℕ, Bool, true, false, cond, List, [], ◌∷◌, drop, refl, ap, ◌∙◌}
use Rattle.std.specs.List.{filter}
use Rattle.base_lines.specs.Parts.{first_part, other_parts}
use Rattle.base_lines.specs.Words.{words, words_left, after_blanks, from_blank, behind_word, after_word, is_blank, is_some_text, LineRest}

-- the words of a text by whether its first byte is a blank
abbrev words_by : Bool → ℕ → (ℕ → Bool) → List ℕ → List (List ℕ)
words_by v b p bs = filter is_some_text (cond v [] (b ∷ first_part p bs) ∷ cond v (first_part p bs ∷ other_parts p bs) (other_parts p bs))

-- from the first blank on stand the words behind the first part
words-from_blank : (p : ℕ → Bool) (text : List ℕ) → words p (from_blank p text) ≡ filter is_some_text (other_parts p text)
words-from_blank p [] = refl
words-from_blank p (b ∷ bs) = by_first (words-from_blank p bs) (p b) refl
  where
    by_first : words p (from_blank p bs) ≡ filter is_some_text (other_parts p bs) → (v : Bool) → p b ≡ v
        → words p (cond v (b ∷ bs) (from_blank p bs)) ≡ filter is_some_text (cond v (first_part p bs ∷ other_parts p bs) (other_parts p bs))
    by_first later true e = ap (λ v. words_by v b p bs) e
    by_first later false e = later

-- behind the first word stand the other words
pub words-behind_word : (p : ℕ → Bool) (text : List ℕ) → words p (behind_word p text) ≡ drop 1 (words p text)
words-behind_word p [] = refl
words-behind_word p (b ∷ bs) = by_first (words-behind_word p bs) (p b) refl
  where
    by_first : words p (behind_word p bs) ≡ drop 1 (words p bs) → (v : Bool) → p b ≡ v → words p (from_blank p (cond v (after_blanks p bs) (b ∷ bs))) ≡ drop 1 (words_by v b p bs)
    by_first later true e = later
    by_first later false e = ap (λ v. words p (cond v (b ∷ bs) (from_blank p bs))) e ∙ words-from_blank p bs

-- the same of a cursor
pub words_left-after_word : (rest : LineRest) → words_left (after_word rest) ≡ drop 1 (words_left rest)
words_left-after_word rest = words-behind_word (is_blank rest.blanks) rest.text
