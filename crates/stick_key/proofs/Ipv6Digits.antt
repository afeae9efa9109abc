-- Groups written in hexadecimal.
use Rattle.std.proofs.Common.{◌≡◌, ℕ, suc, ◌/◌, ◌%◌, ◌<◌, ◌≤◌, ◌==◌, List, [], ◌∷◌, ◌++◌, flat_map, arith, sym, ◌∙◌, ap, true, false, append_assoc, append-nil}
use Rattle.std.proofs.lemmas.Bool.Decides.{nat_tests}
use Rattle.std.specs.Char.{digit_char}
use Rattle.std.specs.Fmt.{digits, digits_onto}
use Rattle.std.specs.declared.alloc.AllocError.{AllocError}
use Rattle.std.specs.Prelude.{Result, Ok, Err, OnOk, is_ok, if◌then◌else◌}
use Rattle.stick_key.specs.Ipv6Printed.{joined}

done : (n : ℕ) → n < 16 → (n / 16 == 0) ≡ true
done n small = let none : n / 16 ≡ 0 = omega arith in grind (arith, nat_tests)

more : (n : ℕ) → 16 ≤ n → (n / 16 == 0) ≡ false
more n large = let some : 1 ≤ n / 16 = omega arith in grind (arith, nat_tests)

last_digit : (k n : ℕ) (after : List ℕ) → n < 16 → digits_onto (suc k) 16 false n after ≡ digit_char n ∷ after
last_digit k n after small = let low : n % 16 ≡ n = omega arith in rw (done n small, low)

next_digit : (k n : ℕ) (after : List ℕ) → 16 ≤ n → digits_onto (suc k) 16 false n after ≡ digits_onto k 16 false (n / 16) (digit_char (n % 16) ∷ after)
next_digit k n after large = rw (more n large)

-- one to four digits
pub one_digit : (n : ℕ) → n < 16 → digits 16 false n ≡ digit_char (n % 256 % 16) ∷ []
unfolding digits
one_digit n small = let same : n % 256 % 16 ≡ n = omega arith in rw same (last_digit 63 n [] small)

pub two_digits : (n : ℕ) → 16 ≤ n → n < 256 → digits 16 false n ≡ digit_char (n % 256 / 16) ∷ digit_char (n % 256 % 16) ∷ []
unfolding digits
two_digits n large small =
    let first : n % 256 / 16 ≡ n / 16 = omega arith in
    let last : n % 256 % 16 ≡ n % 16 = omega arith in
    rw (first, last) (next_digit 63 n [] large ∙ last_digit 62 (n / 16) (digit_char (n % 16) ∷ []) (omega arith))

pub three_digits : (n : ℕ) → 256 ≤ n → n < 4096 → digits 16 false n ≡ digit_char (n / 256 % 256 % 16) ∷ digit_char (n % 256 / 16) ∷ digit_char (n % 256 % 16) ∷ []
unfolding digits
three_digits n large small =
    let first : n / 256 % 256 % 16 ≡ n / 16 / 16 = omega arith in
    let second : n % 256 / 16 ≡ n / 16 % 16 = omega arith in
    let last : n % 256 % 16 ≡ n % 16 = omega arith in
    rw (first, second, last) (next_digit 63 n [] (omega arith) ∙ next_digit 62 (n / 16) (digit_char (n % 16) ∷ []) (omega arith)
    ∙ last_digit 61 (n / 16 / 16) (digit_char (n / 16 % 16) ∷ digit_char (n % 16) ∷ []) (omega arith))

pub four_digits : (n : ℕ) → 4096 ≤ n → n < 65536 →
    digits 16 false n ≡ digit_char (n / 256 % 256 / 16) ∷ digit_char (n / 256 % 256 % 16) ∷ digit_char (n % 256 / 16) ∷ digit_char (n % 256 % 16) ∷ []
unfolding digits
four_digits n large small =
    let first : n / 256 % 256 / 16 ≡ n / 16 / 16 / 16 = omega arith in
    let second : n / 256 % 256 % 16 ≡ n / 16 / 16 % 16 = omega arith in
    let third : n % 256 / 16 ≡ n / 16 % 16 = omega arith in
    let last : n % 256 % 16 ≡ n % 16 = omega arith in
    rw (first, second, third, last) (next_digit 63 n [] (omega arith) ∙ next_digit 62 (n / 16) (digit_char (n % 16) ∷ []) (omega arith)
    ∙ next_digit 61 (n / 16 / 16) (digit_char (n / 16 % 16) ∷ digit_char (n % 16) ∷ []) (omega arith)
    ∙ last_digit 60 (n / 16 / 16 / 16) (digit_char (n / 16 / 16 % 16) ∷ digit_char (n / 16 % 16) ∷ digit_char (n % 16) ∷ []) (omega arith))

-- bytes that are written behind others, where there is memory for them
pub pushed : (written : Result (Unit {0}) AllocError) (new old bytes wanted : List ℕ) → bytes ≡ wanted →
    new ≡ (if is_ok written then old ++ bytes else old) → OnOk written (new ≡ old ++ wanted)
pushed (Ok x) new old bytes wanted same gives = gives ∙ ap (λ rest. old ++ rest) same
pushed (Err x) new old bytes wanted same gives = tt

-- the groups behind the first one, each after a colon
pub joined-cons : (first : ℕ) (groups : List ℕ) → joined (first ∷ groups) ≡ digits 16 false first ++ flat_map (λ group. 58 ∷ digits 16 false group) groups
joined-cons first [] = sym (append-nil (digits 16 false first))
joined-cons first (next ∷ groups) = ap (λ rest. digits 16 false first ++ 58 ∷ rest) (joined-cons next groups)

-- the first group is written, and the others are left
pub first_written : (new old groups rest : List ℕ) (first : ℕ) → groups ≡ first ∷ rest → new ≡ old ++ digits 16 false first →
    new ++ flat_map (λ group. 58 ∷ digits 16 false group) rest ≡ old ++ joined groups
first_written new old groups rest first cut gives =
    rw (cut, joined-cons first rest, gives) (append_assoc old (digits 16 false first) (flat_map (λ group. 58 ∷ digits 16 false group) rest))
