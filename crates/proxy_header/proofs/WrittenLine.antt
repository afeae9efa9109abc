-- A header of version 1 that is written, read again.
use Rattle.std.proofs.Common.{◌≡◌, ℕ, suc, zero, ◌<◌, ◌≤◌, ◌==◌, ◌&&◌, List, [], ◌∷◌, ◌++◌, length, get_or, take, arith, refl, sym, ◌∙◌, ap, false, nat_lt, Some, codes, decimal, length-append}
use Rattle.std.proofs.lemmas.Bool.{and_left, and_right, lt-ltb, ne_eqb}
use Rattle.std.proofs.lemmas.Fmt.{decimal_digit, first_decimal}
use Rattle.std.proofs.lemmas.List.{take_all}
use Rattle.std.proofs.lemmas.List.Splits.{slice_split_at, slice_split_none}
use Rattle.std.specs.List.{All, AllByRecursion, slice_split}
use Rattle.std.specs.Option.{option_map}
use Rattle.base_lines.proofs.NumberLemmas.{number_of-decimal}
use Rattle.base_lines.proofs.PartLemmas.{parts-is_split}
use Rattle.base_lines.specs.Parts.{is_byte}
use Rattle.proxy_header.specs.Line.{first_line, heard_line, port_of, told_line, told_words}
use Rattle.proxy_header.specs.Written.{line, spaced}
use Rattle.proxy_header.proofs.LineLemmas.{ends_here}
use Rattle.proxy_header.proofs.VisibleLemmas.{AreVisible}

-- no byte ends a line
abbrev HasNoEnd : List ℕ → Type 0
HasNoEnd = AllByRecursion (λ byte. 31 < byte)

no_end-visible : (text rest : List ℕ) → AreVisible text → HasNoEnd rest → HasNoEnd (text ++ rest)
no_end-visible [] rest are none = none
no_end-visible (byte ∷ text) rest are none = (omega (arith, are.0), no_end-visible text rest are.1 none)

no_end-alone : (text : List ℕ) → AreVisible text → HasNoEnd text
no_end-alone [] are = tt
no_end-alone (byte ∷ text) are = (omega (arith, are.0), no_end-alone text are.1)

no_end-spaced : (words : List (List ℕ)) → AllByRecursion AreVisible words → HasNoEnd (spaced words)
no_end-spaced [] are = tt
no_end-spaced (word ∷ []) are = no_end-alone word are.0
no_end-spaced (word ∷ next ∷ words) are = no_end-visible word (32 ∷ spaced (next ∷ words)) are.0 (omega arith, no_end-spaced (next ∷ words) are.1)

first_line-is : (text : List ℕ) → HasNoEnd text → first_line (text ++ codes "\r\n") ≡ Some text
first_line-is [] none = refl
first_line-is (byte ∷ text) none =
    let other : ends_here (byte ∷ (text ++ codes "\r\n")) ≡ false = and_left (13 == byte) _ (ne_eqb 13 byte (λ same. omega (arith, same, none.0))) in
    rw other (ap (option_map (λ line. byte ∷ line)) (first_line-is text none.1))

-- words are what stands between the spaces
visible_at : (text : List ℕ) (k d : ℕ) → AreVisible text → k < length text → 32 < get_or text k d
visible_at [] k d are inside = absurd (omega (arith, inside))
visible_at (byte ∷ text) zero d are inside = are.0
visible_at (byte ∷ text) (suc k) d are inside = visible_at text k d are.1 (omega (arith, inside))

no_space : (text : List ℕ) → AreVisible text → All (λ byte. is_byte 32 byte ≡ false) text
no_space text are = λ k d inside. ne_eqb (get_or text k d) 32 (λ same. omega (arith, same, visible_at text k d are inside))

split-spaced : (words : List (List ℕ)) → 0 < length words → AllByRecursion AreVisible words → slice_split (is_byte 32) (spaced words) ≡ words
split-spaced [] some are = absurd (omega arith)
split-spaced (word ∷ []) some are = slice_split_none (is_byte 32) word (no_space word are.0)
split-spaced (word ∷ next ∷ words) some are =
    slice_split_at (is_byte 32) word 32 (spaced (next ∷ words)) (no_space word are.0) refl ∙ ap (λ rest. word ∷ rest) (split-spaced (next ∷ words) (omega arith) are.1)

-- what is heard of words that are written
pub reads_words : (words : List (List ℕ)) → 0 < length words → AllByRecursion AreVisible words → length (line words) ≤ 107 → heard_line (line words) ≡ told_words (length (line words)) words
unfolding heard_line
reads_words words some are short =
    let text : List ℕ = spaced words in
    let found : first_line (take 107 (line words)) ≡ Some text = ap first_line (take_all 107 (line words) short) ∙ first_line-is text (no_end-spaced words are) in
    ap (told_line (length (line words))) found
    ∙ (λ i. told_words (sym (length-append text (codes "\r\n")) i) ((parts-is_split (is_byte 32) text ∙ split-spaced words some are) i))

-- a port that is written
no_zero : (port : ℕ) → port < 65536 → (nat_lt 1 (length (decimal port)) && (get_or (decimal port) 0 0 == 48)) ≡ false
no_zero zero small = ap (λ text. nat_lt 1 (length text) && (get_or text 0 0 == 48)) (decimal_digit 0 (omega arith))
no_zero (suc port) small = and_right _ _ (ne_eqb (get_or (decimal (suc port)) 0 0) 48 (λ same. omega (arith, same, first_decimal (suc port) (omega arith) (omega arith))))

pub reads_port : (port : ℕ) → port < 65536 → port_of (decimal port) ≡ Some port
reads_port port small = rw (no_zero port small, number_of-decimal port (omega arith), lt-ltb port 65536 small) refl
