-- The address that a text of four groups gives.
use Rattle.std.proofs.Common.{◌≡◌, ℕ, ◌<◌, ◌≤◌, ◌==◌, ◌&&◌, List, [], ◌∷◌, length, get_or, map, refl, sym, ◌∙◌, ap}
use Rattle.std.proofs.lemmas.Bool.{false_from_ne_true, leb-true, le-leb}
use Rattle.std.proofs.lemmas.Option.{cond_some}
use Rattle.std.proofs.lemmas.Bool.Decides.{Decides-and, Decides-ltb, Decides-eqb, Decides-not, Decides-like}
use Rattle.std.specs.Bool.{Decides}
use Rattle.std.specs.Char.{digit_value}
use Rattle.std.specs.List.{AllByRecursion, list_all}
use Rattle.std.specs.Prelude.{nat_le, nat_lt, Some, None, Result, Ok, Err}
use Rattle.std.specs.Result.{result_ok}
use Rattle.std.specs.Str.Parse.{AllDigits, IsNumeral, digits_value}
use Rattle.stick_key.specs.AddressOf.{dotted_of, is_octet}
use Rattle.stick_key.specs.Dotted.{AreBytes, IsDotted, IsGroup, ReadsDotted, groups, numbers}
use Rattle.stick_key.specs.Numeral.{is_numeral}
use Rattle.stick_key.specs.declared.fault.KeyFault.{KeyFault}
use Rattle.stick_key.specs.declared.fault.KeyFault.TheVariants.{Malformed, OutOfRange, Memory}

decides_digits : (radix : ℕ) (text : List ℕ) → Decides (list_all (λ byte. nat_lt (digit_value byte) radix) text) (AllDigits radix text)
decides_digits radix [] = (λ test. tt, λ digits. refl)
decides_digits radix (c ∷ text) =
    Decides-and (nat_lt (digit_value c) radix) (list_all (λ byte. nat_lt (digit_value byte) radix) text) (Decides-ltb (digit_value c) radix) (decides_digits radix text)

pub decides_numeral : (radix : ℕ) (text : List ℕ) → Decides (is_numeral radix text) (IsNumeral radix text)
decides_numeral radix text =
    Decides-and (nat_lt 0 (length text)) (list_all (λ byte. nat_lt (digit_value byte) radix) text) (Decides-ltb 0 (length text)) (decides_digits radix text)

pub decides_le : (a b : ℕ) → Decides (nat_le a b) (a ≤ b)
decides_le a b = (leb-true a b, le-leb a b)

-- a group of a number up to 255
decides_octet : (group : List ℕ) → Decides (is_octet group) (IsGroup group × (digits_value 10 group < 256))
decides_octet group =
    let long = Decides-ltb 1 (length group) in
    let zero = Decides-eqb (get_or group 0 0) 48 in
    let leading = Decides-not _ (Decides-and _ _ long zero) in
    let all = Decides-and _ _ (Decides-and _ _ (Decides-and _ _ (decides_numeral 10 group) (decides_le (length group) 3)) leading) (Decides-ltb (digits_value 10 group) 256) in
    Decides-like (is_octet group)
    (λ h. (record { digits = h.0.0.0; short = h.0.0.1; no_leading_zero = λ several first. h.0.1 (several, first) }, h.1))
    (λ h. (((h.0.digits, h.0.short), λ both. h.0.no_leading_zero both.0 both.1), h.1)) all

decides_octets : (parts : List (List ℕ)) → Decides (list_all is_octet parts) (AllByRecursion IsGroup parts × AreBytes (map (digits_value 10) parts))
decides_octets [] = (λ test. (tt, tt), λ all. refl)
decides_octets (part ∷ parts) =
    Decides-like (is_octet part && list_all is_octet parts) (λ h. ((h.0.0, h.1.0), (h.0.1, h.1.1))) (λ h. ((h.0.0, h.1.0), (h.0.1, h.1.1)))
    (Decides-and (is_octet part) (list_all is_octet parts) (decides_octet part) (decides_octets parts))

decides_dotted : (text : List ℕ) → Decides ((length (groups text) == 4) && list_all is_octet (groups text)) (IsDotted text × AreBytes (numbers text))
decides_dotted text =
    Decides-like ((length (groups text) == 4) && list_all is_octet (groups text)) (λ h. (record { four = h.0; each = h.1.0 }, h.1.1)) (λ h. (h.0.four, (h.0.each, h.1)))
    (Decides-and (length (groups text) == 4) (list_all is_octet (groups text)) (Decides-eqb (length (groups text)) 4) (decides_octets (groups text)))

-- the numbers of a text of four such groups
pub dotted_of-some : (text : List ℕ) → IsDotted text → AreBytes (numbers text) → dotted_of text ≡ Some (numbers text)
unfolding dotted_of
dotted_of-some text dotted small = rw ((decides_dotted text).1 (dotted, small)) refl

-- and nothing of another
pub dotted_of-none : (text : List ℕ) → (IsDotted text → AreBytes (numbers text) → ⊥) → dotted_of text ≡ None
unfolding dotted_of
dotted_of-none text other =
    rw (false_from_ne_true ((length (groups text) == 4) && list_all is_octet (groups text)) (λ test. other ((decides_dotted text).0 test).0 ((decides_dotted text).0 test).1)) refl

-- so what it gives are the numbers
pub dotted_of-is : (text address : List ℕ) → dotted_of text ≡ Some address → IsDotted text × AreBytes address × (address ≡ numbers text)
unfolding dotted_of
dotted_of-is text address gives =
    let found = cond_some ((length (groups text) == 4) && list_all is_octet (groups text)) (numbers text) address gives in
    let known = (decides_dotted text).0 found.0 in
    let same = found.1 in
    (known.0, rw (← same) known.1, sym same)

-- what a reading answers
pub read_gives : (text : List ℕ) (read : Result (List ℕ) KeyFault) → ReadsDotted text read → result_ok read ≡ dotted_of text
read_gives text (Ok address) reads = ap Some reads.2 ∙ sym (dotted_of-some text reads.0 reads.1)
read_gives text (Err Malformed) reads = sym (dotted_of-none text (λ dotted small. reads dotted))
read_gives text (Err OutOfRange) reads = sym (dotted_of-none text (λ dotted small. reads.1 small))
read_gives text (Err Memory) reads = absurd reads
