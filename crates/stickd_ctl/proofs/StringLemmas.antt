-- What stands between the quotes of a string, from a place on.
use Rattle.std.proofs.Common.{◌≡◌, ℕ, zero, suc, ◌+◌, ◌-◌, ◌<◌, List, ◌∷◌, ◌++◌, length, drop, refl, sym, ap, ◌∙◌, append_assoc, arith}
use Rattle.std.proofs.lemmas.List.{at_drop_more}
use Rattle.stickd_ctl.specs.Strings.{string_body, char_text, char_length}

-- a byte that belongs to the character before it is left out
pub body_skips : (skipped place : ℕ) (bytes : List ℕ) → place < length bytes → 0 < skipped →
    string_body skipped (drop place bytes) ≡ string_body (skipped - 1) (drop (place + 1) bytes)
body_skips zero place bytes below some = absurd (omega arith)
body_skips (suc k) place bytes below some =
    let e : suc k - 1 ≡ k = omega arith in
    at_drop_more (string_body (suc k)) bytes place 0 below ∙ ap (λ n. string_body n (drop (place + 1) bytes)) (sym e)

-- else a character begins there
pub body_begins : (skipped place : ℕ) (bytes : List ℕ) → place < length bytes → skipped ≡ 0 →
    string_body skipped (drop place bytes)
    ≡ char_text (drop place bytes) (char_length (drop place bytes)) ++ string_body (char_length (drop place bytes) - 1) (drop (place + 1) bytes)
body_begins zero place bytes below none = rw (at_drop_more (λ rest. rest) bytes place 0 below) refl
body_begins (suc k) place bytes below none = absurd (omega arith)

-- what was added and what is left stay together over a character
pub body_goes_on : (place skipped count left : ℕ) (bytes text old whole : List ℕ) → place < length bytes → skipped ≡ 0 →
    count ≡ char_length (drop place bytes) → left ≡ count - 1 → text ≡ old ++ char_text (drop place bytes) count →
    old ++ string_body skipped (drop place bytes) ≡ whole → text ++ string_body left (drop (place + 1) bytes) ≡ whole
body_goes_on place skipped count left bytes text old whole below none is_count is_left is_text before =
    rw (is_text, is_left, is_count) (append_assoc old _ _ ∙ sym (ap (λ t. old ++ t) (body_begins skipped place bytes below none)) ∙ before)
