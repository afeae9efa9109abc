-- Bytes and their hexadecimal digits.
use Rattle.std.proofs.Common.{◌≡◌, ℕ, suc, zero, ◌+◌, ◌-◌, ◌*◌, ◌/◌, ◌%◌, ◌<◌, ◌==◌, List, [], ◌∷◌, ◌++◌, length, get_or, take, replicate, arith, refl, sym, min, ◌∙◌, ap, true, inl, inr, append-nil, length-take, length-append}
use Rattle.std.proofs.lemmas.Bool.Decides.{Decides-and, Decides-eqb}
use Rattle.std.proofs.lemmas.List.{length-replicate, take_all, take_min, take_more, take-take}
use Rattle.std.proofs.lemmas.Str.{digit_value-digit_char}
use Rattle.std.specs.Bool.{Decides}
use Rattle.std.specs.Char.{digit_char, digit_value}
use Rattle.std.specs.List.{AllClonesOf, AppendsClonesOf}
use Rattle.std.specs.Prelude.{◌≢◌}
use Rattle.std.specs.Str.Parse.{AllDigits, IsNumeral}
use Rattle.stick_key.specs.Dotted.{AreBytes}
use Rattle.stick_key.specs.Hexadecimal.{fitted, hexadecimal, is_hexadecimal, spelled}
use Rattle.stick_key.specs.KeyText.{Reads}
use Rattle.stick_key.specs.Numeral.{is_numeral}
use Rattle.stick_key.specs.declared.kind.KeyType.TheVariants.{Binary}
use Rattle.stick_key.proofs.DottedLemmas.{decides_numeral}
use Rattle.stick_key.proofs.Numerals.{digit_below}

decides_hexadecimal : (text : List ℕ) → Decides (is_hexadecimal text) (IsNumeral 16 text × (length text % 2 ≡ 0))
decides_hexadecimal text = Decides-and (is_numeral 16 text) (length text % 2 == 0) (decides_numeral 16 text) (Decides-eqb (length text % 2) 0)

-- each byte of such a text is a digit
pub digit_inside : (text : List ℕ) (k : ℕ) → is_hexadecimal text ≡ true → k < length text → digit_value (get_or text k 0) < 16
digit_inside text k is inside = digit_below 16 text k ((decides_hexadecimal text).0 is).0.1 inside

-- ---- what digits spell

get_behind : (a b : ℕ) (xs : List ℕ) (k j : ℕ) → j ≡ k + 2 → get_or (a ∷ b ∷ xs) j 0 ≡ get_or xs k 0
get_behind a b xs k j same = let next : j ≡ suc (suc k) = omega arith in rw next refl

pub length-spelled : (digits : List ℕ) → length (spelled digits) ≡ length digits / 2
length-spelled [] = refl
length-spelled (digit ∷ []) = refl
length-spelled (high ∷ low ∷ digits) = omega (arith, length-spelled digits)

get_or-spelled : (digits : List ℕ) (k : ℕ) → 2 * k + 1 < length digits →
    get_or (spelled digits) k 0 ≡ 16 * digit_value (get_or digits (2 * k) 0) + digit_value (get_or digits (2 * k + 1) 0)
get_or-spelled [] k inside = absurd (omega (arith, inside))
get_or-spelled (digit ∷ []) k inside = absurd (omega (arith, inside))
get_or-spelled (high ∷ low ∷ digits) zero inside = refl
get_or-spelled (high ∷ low ∷ digits) (suc k) inside =
    let first : get_or (high ∷ low ∷ digits) (2 * suc k) 0 ≡ get_or digits (2 * k) 0 = get_behind high low digits (2 * k) (2 * suc k) (omega arith) in
    let second : get_or (high ∷ low ∷ digits) (2 * suc k + 1) 0 ≡ get_or digits (2 * k + 1) 0 = get_behind high low digits (2 * k + 1) (2 * suc k + 1) (omega arith) in
    rw (first, second) (get_or-spelled digits k (omega (arith, inside)))

-- one byte more
pub spelled_more : (digits : List ℕ) (k : ℕ) → k < length digits / 2 →
    take (k + 1) (spelled digits) ≡ take k (spelled digits) ++ (16 * digit_value (get_or digits (2 * k) 0) + digit_value (get_or digits (2 * k + 1) 0)) ∷ []
spelled_more digits k inside =
    take_more (spelled digits) k 0 (omega (arith, inside, length-spelled digits))
    ∙ ap (λ byte. take k (spelled digits) ++ byte ∷ []) (get_or-spelled digits k (omega (arith, inside)))

-- as many bytes as there are, or as are asked for
pub spelled_all : (digits : List ℕ) (place count : ℕ) → place ≡ min count (length digits / 2) → take place (spelled digits) ≡ take count (spelled digits)
spelled_all digits place count same =
    let long : place ≡ min count (length (spelled digits)) = same ∙ ap (λ n. min count n) (sym (length-spelled digits)) in
    rw long (take_min count (spelled digits))

-- ---- so many bytes

zeros : (ys : List ℕ) → AllClonesOf (λ x y. y ≡ x) 0 ys → ys ≡ replicate (length ys) 0
zeros [] all = refl
zeros (y ∷ ys) (inl first, all) = cc (first, zeros ys all)
zeros (y ∷ ys) (inr first, all) = cc (first, zeros ys all)

-- bytes that are cut, and filled with zeros
pub fitted_is : (n : ℕ) (old new : List ℕ) → AppendsClonesOf (λ x y. y ≡ x) (take n old) new 0 → length new ≡ n → new ≡ fitted n old
fitted_is n old new (ys, made, all) long =
    let count : length ys ≡ n - length old = omega (arith, long, ap length made, length-append (take n old) ys, length-take n old) in
    rw (made, ← count) (ap (λ rest. take n old ++ rest) (zeros ys all))

-- only the first of them matter
pub fitted_first : (n : ℕ) (bytes : List ℕ) → fitted n (take n bytes) ≡ fitted n bytes
fitted_first n bytes =
    let first : take n (take n bytes) ≡ take n bytes = take-take n n bytes (omega arith) in
    let count : n - length (take n bytes) ≡ n - length bytes = omega (arith, length-take n bytes) in
    rw (first, count) refl

pub length-fitted : (n : ℕ) (bytes : List ℕ) → length (fitted n bytes) ≡ n
length-fitted n bytes =
    omega (arith, length-append (take n bytes) (replicate (n - length bytes) 0), length-take n bytes, length-replicate {A = ℕ} (n - length bytes) 0)

fitted-same : (n : ℕ) (key : List ℕ) → length key ≡ n → fitted n key ≡ key
fitted-same n key long =
    let first : take n key ≡ key = take_all n key (omega (arith, long)) in
    let none : n - length key ≡ 0 = omega (arith, long) in
    rw (first, none) (append-nil key)

-- ---- what is printed reads back

spelled-hexadecimal : (key : List ℕ) → AreBytes key → spelled (hexadecimal key) ≡ key
spelled-hexadecimal [] bytes = refl
spelled-hexadecimal (byte ∷ key) bytes =
    let high : digit_value (digit_char (byte / 16)) ≡ byte / 16 = digit_value-digit_char (byte / 16) (omega (arith, bytes.0)) in
    let low : digit_value (digit_char (byte % 16)) ≡ byte % 16 = digit_value-digit_char (byte % 16) (omega arith) in
    let whole : 16 * (byte / 16) + byte % 16 ≡ byte = omega arith in
    rw (high, low, whole) (ap (λ rest. byte ∷ rest) (spelled-hexadecimal key bytes.1))

hexadecimal_digits : (key : List ℕ) → AreBytes key → AllDigits 16 (hexadecimal key)
hexadecimal_digits [] bytes = tt
hexadecimal_digits (byte ∷ key) bytes =
    let high : byte / 16 < 16 = omega (arith, bytes.0) in
    let low : byte % 16 < 16 = omega arith in
    (rw (digit_value-digit_char (byte / 16) (omega arith)) high, (rw (digit_value-digit_char (byte % 16) (omega arith)) low, hexadecimal_digits key bytes.1))

length-hexadecimal : (key : List ℕ) → length (hexadecimal key) ≡ 2 * length key
length-hexadecimal [] = refl
length-hexadecimal (byte ∷ key) = omega (arith, length-hexadecimal key)

some_digits : (key : List ℕ) → key ≢ [] → 0 < length (hexadecimal key)
some_digits [] some = absurd (some refl)
some_digits (byte ∷ key) some = omega arith

pub binary_reads : (n : ℕ) (key : List ℕ) → AreBytes key → key ≢ [] → length key ≡ n → Reads (Binary n) (hexadecimal key) key
binary_reads n key bytes some long =
    let even : length (hexadecimal key) % 2 ≡ 0 = omega (arith, length-hexadecimal key) in (
      (decides_hexadecimal (hexadecimal key)).1 ((some_digits key some, hexadecimal_digits key bytes), even),
      rw (spelled-hexadecimal key bytes) (sym (fitted-same n key long)),
    )
