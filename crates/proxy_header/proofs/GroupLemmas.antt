-- The groups of IPv6 addresses, printed.
use Rattle.std.proofs.Common.{◌≡◌, ℕ, suc, ◌+◌, ◌*◌, ◌/◌, ◌%◌, ◌<◌, ◌≤◌, ◌==◌, List, [], ◌∷◌, ◌++◌, length, get_or, flat_map, arith, refl, sym, ◌∙◌, ap, true, false, append_assoc, append-nil}
use Rattle.std.proofs.lemmas.Bool.Decides.{nat_tests}
use Rattle.std.specs.Char.{digit_char}
use Rattle.std.specs.Fmt.{digits, digits_onto}
use Rattle.stick_key.specs.Ipv6Printed.{joined}
use Rattle.stick_key.specs.Ipv6Text.{pairs}

get_next : (a b : ℕ) (xs : List ℕ) (k j : ℕ) → j ≡ k + 2 → get_or (a ∷ b ∷ xs) j 0 ≡ get_or xs k 0
get_next a b xs k j same = let next : j ≡ suc (suc k) = omega arith in rw next

-- the numbers of two bytes at a time
pub are_pairs : (bytes groups : List ℕ) → length bytes ≡ 2 * length groups →
    ((k : ℕ) → k < length groups → get_or groups k 0 ≡ 256 * get_or bytes (2 * k) 0 + get_or bytes (2 * k + 1) 0) → groups ≡ pairs bytes
are_pairs [] [] long each = refl
are_pairs [] (g ∷ groups) long each = absurd (omega (arith, long))
are_pairs (a ∷ []) [] long each = absurd (omega (arith, long))
are_pairs (a ∷ []) (g ∷ groups) long each = absurd (omega (arith, long))
are_pairs (a ∷ b ∷ bytes) [] long each = absurd (omega (arith, long))
are_pairs (a ∷ b ∷ bytes) (g ∷ groups) long each =
    let first : g ≡ 256 * a + b = each 0 (omega arith) in
    let rest : groups ≡ pairs bytes = are_pairs bytes groups (omega (arith, long)) (λ k inside.
    each (suc k) (omega arith) ∙ cc (get_next a b bytes (2 * k) (2 * suc k) (omega arith), get_next a b bytes (2 * k + 1) (2 * suc k + 1) (omega arith))) in
    cc

-- hexadecimal digits, from the last one on
last : (n : ℕ) → n < 16 → (n / 16 == 0) ≡ true
last n small = let none : n / 16 ≡ 0 = omega arith in grind (arith, nat_tests)

more : (n : ℕ) → 16 ≤ n → (n / 16 == 0) ≡ false
more n large = let some : 1 ≤ n / 16 = omega arith in grind (arith, nat_tests)

last_digit : (k n : ℕ) (after : List ℕ) → n < 16 → digits_onto (suc k) 16 false n after ≡ digit_char n ∷ after
last_digit k n after small = let low : n % 16 ≡ n = omega arith in rw (last n small, low)

next_digit : (k n : ℕ) (after : List ℕ) → 16 ≤ n → digits_onto (suc k) 16 false n after ≡ digits_onto k 16 false (n / 16) (digit_char (n % 16) ∷ after)
next_digit k n after large = rw (more n large)

-- one to four digits
pub one_digit : (n : ℕ) → n < 16 → digits 16 false n ≡ digit_char (n % 256 % 16) ∷ []
unfolding digits
one_digit n small = let same : n % 256 % 16 ≡ n = omega arith in rw same (last_digit 63 n [] small)

pub two_digits : (n : ℕ) → 16 ≤ n → n < 256 → digits 16 false n ≡ digit_char (n % 256 / 16) ∷ digit_char (n % 256 % 16) ∷ []
unfolding digits
two_digits n large small =
    let first : n % 256 / 16 ≡ n / 16 = omega arith in
    let back : n % 256 % 16 ≡ n % 16 = omega arith in
    rw (first, back) (next_digit 63 n [] large ∙ last_digit 62 (n / 16) (digit_char (n % 16) ∷ []) (omega arith))

pub three_digits : (n : ℕ) → 256 ≤ n → n < 4096 → digits 16 false n ≡ digit_char (n / 256 % 256 % 16) ∷ digit_char (n % 256 / 16) ∷ digit_char (n % 256 % 16) ∷ []
unfolding digits
three_digits n large small =
    let first : n / 256 % 256 % 16 ≡ n / 16 / 16 = omega arith in
    let second : n % 256 / 16 ≡ n / 16 % 16 = omega arith in
    let back : n % 256 % 16 ≡ n % 16 = omega arith in
    rw (first, second, back) (next_digit 63 n [] (omega arith) ∙ next_digit 62 (n / 16) (digit_char (n % 16) ∷ []) (omega arith)
    ∙ last_digit 61 (n / 16 / 16) (digit_char (n / 16 % 16) ∷ digit_char (n % 16) ∷ []) (omega arith))

pub four_digits : (n : ℕ) → 4096 ≤ n → n < 65536 →
    digits 16 false n ≡ digit_char (n / 256 % 256 / 16) ∷ digit_char (n / 256 % 256 % 16) ∷ digit_char (n % 256 / 16) ∷ digit_char (n % 256 % 16) ∷ []
unfolding digits
four_digits n large small =
    let first : n / 256 % 256 / 16 ≡ n / 16 / 16 / 16 = omega arith in
    let second : n / 256 % 256 % 16 ≡ n / 16 / 16 % 16 = omega arith in
    let third : n % 256 / 16 ≡ n / 16 % 16 = omega arith in
    let back : n % 256 % 16 ≡ n % 16 = omega arith in
    rw (first, second, third, back) (next_digit 63 n [] (omega arith) ∙ next_digit 62 (n / 16) (digit_char (n % 16) ∷ []) (omega arith)
    ∙ next_digit 61 (n / 16 / 16) (digit_char (n / 16 % 16) ∷ digit_char (n % 16) ∷ []) (omega arith)
    ∙ last_digit 60 (n / 16 / 16 / 16) (digit_char (n / 16 / 16 % 16) ∷ digit_char (n / 16 % 16) ∷ digit_char (n % 16) ∷ []) (omega arith))

-- the groups behind the first one, each after a colon
pub joined-cons : (first : ℕ) (groups : List ℕ) → joined (first ∷ groups) ≡ digits 16 false first ++ flat_map (λ group. 58 ∷ digits 16 false group) groups
joined-cons first [] = sym (append-nil (digits 16 false first))
joined-cons first (next ∷ groups) = ap (λ rest. digits 16 false first ++ 58 ∷ rest) (joined-cons next groups)

-- the first group is written, and the others are left
pub first_written : (new old groups rest : List ℕ) (first : ℕ) → groups ≡ first ∷ rest → new ≡ old ++ digits 16 false first →
    new ++ flat_map (λ group. 58 ∷ digits 16 false group) rest ≡ old ++ joined groups
first_written new old groups rest first cut gives =
    rw (cut, joined-cons first rest, gives) (append_assoc old (digits 16 false first) (flat_map (λ group. 58 ∷ digits 16 false group) rest))
