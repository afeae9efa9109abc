-- Decimal numbers: what `number_of` says in std's words.
use Rattle.std.proofs.Common.{◌≡◌, ℕ, ◌+◌, ◌-◌, ◌*◌, ◌/◌, ◌%◌, ◌<◌, ◌≤◌, ◌^◌, Bool, true, false, ◌&&◌, nat_lt, Some, None, List, [], ◌∷◌, length, drop, get_or, arith, refl, sym, ap, ◌∙◌, length-append}
use Rattle.std.specs.Char.{digit_value, is_ascii_digit}
use Rattle.std.specs.Str.{all_ascii_digits}
use Rattle.std.specs.Str.Parse.{IsNumeral, AllDigits, digits_value, digits_value_after}
use Rattle.std.proofs.lemmas.Bool.Decides.{nat_tests}
use Rattle.std.proofs.lemmas.List.{drop_more, at_drop_all}
use Rattle.std.specs.Prelude.{MatchOption, if◌then◌else◌, decimal}
use Rattle.std.proofs.lemmas.Fmt.{decimal_is_IsNumeral, decimal_step, length-decimal-le}
use Rattle.std.proofs.lemmas.Str.Parse.{numerals_by_value, tells_all_ascii_digits}
use Rattle.base_lines.specs.Words.{is_some_text}
use Rattle.base_lines.specs.Number.{number_of}

-- more digits make no number smaller
value_after-le : (n : ℕ) (text : List ℕ) → n ≤ digits_value_after 10 n text
value_after-le n [] = omega arith
value_after-le n (c ∷ cs) = omega (arith, value_after-le (n * 10 + digit_value c) cs)

-- a number of 2 ^ 64 or more is none
pub number_of-large : (text : List ℕ) → 2 ^ 64 ≤ digits_value 10 text → number_of text ≡ None
unfolding number_of
number_of-large text large =
    let small : nat_lt (digits_value 10 text) (2 ^ 64) ≡ false = grind (arith, nat_tests) in
    grind (arith, nat_tests)

-- the value of a decimal digit
digit_value_is : (b : ℕ) → is_ascii_digit b ≡ true → digit_value b ≡ b - 48
digit_value_is b digit = grind (arith, nat_tests)

-- a digit that makes the number too large
pub number_of-too_large : (text : List ℕ) (n i : ℕ) → i < length text → is_ascii_digit (get_or text i 0) ≡ true → digits_value_after 10 n (drop i text) ≡ digits_value 10 text
    → ¬ (n * 10 + (get_or text i 0 - 48) < 2 ^ 64) → number_of text ≡ None
number_of-too_large text n i within digit value large =
    let b = get_or text i 0 in
    let cut = ap (digits_value_after 10 n) (drop_more text i 0 within) in
    let here = digit_value_is b digit in
    number_of-large text (omega (arith, cut, value, here, value_after-le (n * 10 + digit_value b) (drop (i + 1) text)))

-- a text that isn't all digits is no number
pub number_of-other : (text : List ℕ) → all_ascii_digits text ≡ false → number_of text ≡ None
unfolding number_of
number_of-other text other = rw other (grind (arith, nat_tests))

-- all digits were read
pub number_of-digits : (text : List ℕ) (n : ℕ) → 0 < length text → all_ascii_digits text ≡ true → digits_value 10 text ≡ n → n < 2 ^ 64 → number_of text ≡ Some n
unfolding number_of
number_of-digits [] n some digits value fits = absurd (omega arith)
number_of-digits (c ∷ cs) n some digits value fits =
    let small : nat_lt n (2 ^ 64) ≡ true = grind (arith, nat_tests) in
    rw (digits, value, small) refl

-- what was read so far is all of the text
pub number_of-all : (text : List ℕ) (n i : ℕ) → length text ≤ i → 0 < length text → all_ascii_digits (drop i text) ≡ all_ascii_digits text
    → digits_value_after 10 n (drop i text) ≡ digits_value 10 text → n < 2 ^ 64 → number_of text ≡ Some n
number_of-all text n i end some digits value fits =
    number_of-digits text n some (sym digits ∙ at_drop_all all_ascii_digits text i end) (sym value ∙ at_drop_all (digits_value_after 10 n) text i end) fits

-- the tests of a numeral
some_text : (text : List ℕ) → is_some_text text ≡ true → 0 < length text
some_text [] some = cc
some_text (c ∷ cs) some = omega arith

is_some : (text : List ℕ) → 0 < length text → is_some_text text ≡ true
is_some [] some = absurd (omega arith)
is_some (c ∷ cs) some = refl

all_digits : (text : List ℕ) → all_ascii_digits text ≡ true → AllDigits 10 text
all_digits text digits = (numerals_by_value (λ ds. all_ascii_digits ds ≡ true) tells_all_ascii_digits).to text digits

are_digits : (text : List ℕ) → AllDigits 10 text → all_ascii_digits text ≡ true
are_digits text digits = (numerals_by_value (λ ds. all_ascii_digits ds ≡ true) tells_all_ascii_digits).from text digits

by_tests : (text : List ℕ) (some digits small : Bool) → is_some_text text ≡ some → all_ascii_digits text ≡ digits → nat_lt (digits_value 10 text) (2 ^ 64) ≡ small →
    MatchOption (if some && digits && small then Some (digits_value 10 text) else None)
    (IsNumeral 10 text → 2 ^ 64 ≤ digits_value 10 text) (λ n. IsNumeral 10 text × (n ≡ digits_value 10 text) × (n < 2 ^ 64))
by_tests text true true true some digits small = ((some_text text some, all_digits text digits), refl, grind (arith, nat_tests))
by_tests text true true false some digits small = λ numeral. grind (arith, nat_tests)
by_tests text true false small some digits e = λ numeral. let yes : true ≡ false = sym (are_digits text numeral.1) ∙ digits in cc
by_tests text false digits small some e e' = λ numeral. let yes : true ≡ false = sym (is_some text numeral.0) ∙ some in cc

-- a text's number is what its digits write
pub number_of-numeral : (text : List ℕ) →
    MatchOption (number_of text) (IsNumeral 10 text → 2 ^ 64 ≤ digits_value 10 text) (λ n. IsNumeral 10 text × (n ≡ digits_value 10 text) × (n < 2 ^ 64))
unfolding number_of
number_of-numeral text = by_tests text (is_some_text text) (all_ascii_digits text) (nat_lt (digits_value 10 text) (2 ^ 64)) refl refl refl

-- a numeral below 2 ^ 64 is read
pub number_of-read : (text : List ℕ) → IsNumeral 10 text → digits_value 10 text < 2 ^ 64 → number_of text ≡ Some (digits_value 10 text)
number_of-read text numeral fits = number_of-digits text (digits_value 10 text) numeral.0 (are_digits text numeral.1) refl fits

-- the decimal text of a number reads as the number
pub number_of-decimal : (n : ℕ) → n < 2 ^ 64 → number_of (decimal n) ≡ Some n
number_of-decimal n fits =
    let numeral = decimal_is_IsNumeral n fits in
    number_of-digits (decimal n) n numeral.0.0 (are_digits (decimal n) numeral.0.1) numeral.1 fits

-- one digit less
pub tenth_shorter : (n : ℕ) → 10 ≤ n → n < 2 ^ 64 → length (decimal (n / 10)) + 1 ≡ length (decimal n)
tenth_shorter n big small = let step = ap length (decimal_step n big small) in omega (arith, step, length-append (decimal (n / 10)) ((48 + n % 10) ∷ []))

-- no number of 64 bits has more digits
pub twenty_digits : (n : ℕ) → n < 2 ^ 64 → length (decimal n) ≤ 20
twenty_digits n small = length-decimal-le 20 n (omega arith) (omega arith) small
