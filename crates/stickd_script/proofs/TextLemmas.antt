-- On the decimal texts of short numbers.
use Rattle.std.proofs.Common.{◌≡◌, ℕ, ◌+◌, ◌≤◌, ◌<◌, ◌^◌, ◌/◌, ◌%◌, [], ◌∷◌, length, decimal, arith, ap, length-append}
use Rattle.std.proofs.lemmas.Fmt.{decimal_step, length-decimal-le}

-- a number of 32 bits has at most ten digits
pub short_decimal : (n : ℕ) → n < 2 ^ 32 → length (decimal n) ≤ 10
short_decimal n small = length-decimal-le 10 n (omega arith) (omega arith) (omega arith)

-- the last digit stands behind those of a tenth
pub tenth_shorter : (n : ℕ) → 10 ≤ n → n < 2 ^ 32 → length (decimal (n / 10)) + 1 ≡ length (decimal n)
tenth_shorter n big small = let step = ap length (decimal_step n big (omega arith)) in omega (arith, step, length-append (decimal (n / 10)) ((48 + n % 10) ∷ []))
