-- How many lines there are, and how long a first part is.
use Rattle.std.proofs.Common.{◌≡◌, ◌≤◌, ◌+◌, ℕ, Bool, true, false, cond, suc, List, [], ◌∷◌, length, arith, refl, ap, ◌∙◌}
use Rattle.base_lines.specs.Parts.{parts, first_part, is_line_end}
use Rattle.base_lines.specs.Words.{words_left, after_word, LineRest}
use Rattle.base_lines.proofs.PartLemmas.{few_parts}
use Rattle.base_lines.proofs.WordLemmas.{words_left-after_word}
use Rattle.rule_words.specs.Lines.{without_crs, lines_of, other_words}

length-without_crs : (lines : List (List ℕ)) → length (without_crs lines) ≡ length lines
length-without_crs [] = refl
length-without_crs (last ∷ []) = refl
length-without_crs (line ∷ next ∷ more) = ap suc (length-without_crs (next ∷ more))

-- no more lines than there are bytes, and one
pub few_lines : (text : List ℕ) → length (lines_of text) ≤ length text + 1
few_lines text = omega (arith, length-without_crs (parts is_line_end text), few_parts is_line_end text)

-- a part is no longer than the whole
pub first_part-le : (p : ℕ → Bool) (text : List ℕ) → length (first_part p text) ≤ length text
first_part-le p [] = omega arith
first_part-le p (b ∷ bs) =
    let rest = first_part-le p bs in
    let P : Bool → Type 0 = λ v. length (cond v [] (b ∷ first_part p bs)) ≤ length (b ∷ bs) in
    elim (p b) as P [ true ↦ omega arith | false ↦ omega arith ]

-- the words behind the next one
pub words-behind : (old new : LineRest) → new ≡ after_word old → words_left new ≡ other_words (words_left old)
words-behind old new e = ap words_left e ∙ words_left-after_word old
