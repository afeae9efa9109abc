-- What tests of numbers say.
use Rattle.std.proofs.Common.{◌≡◌, ℕ, ◌≤◌, ◌<◌, nat_eq, nat_lt, nat_le, Bool, true, false, ◌&&◌, arith, refl}
use Rattle.std.proofs.lemmas.Bool.{false≢true}
use Rattle.std.proofs.lemmas.Bool.Decides.{nat_tests}

pub and-left : (a b : Bool) → a && b ≡ true → a ≡ true
and-left true b h = refl
and-left false b h = h

pub and-right : (a b : Bool) → a && b ≡ true → b ≡ true
and-right true b h = h
and-right false b h = absurd (false≢true h)

pub eq-from : (a b : ℕ) → nat_eq a b ≡ true → a ≡ b
eq-from a b h = grind (arith, nat_tests)

pub le-from : (a b : ℕ) → nat_le a b ≡ true → a ≤ b
le-from a b h = grind (arith, nat_tests)

pub lt-from : (a b : ℕ) → nat_lt a b ≡ true → a < b
lt-from a b h = grind (arith, nat_tests)

pub lt-to : (a b : ℕ) → a < b → nat_lt a b ≡ true
lt-to a b h = grind (arith, nat_tests)

pub differ-above : (a b : ℕ) → a < b → nat_eq a b ≡ false
differ-above a b h = grind (arith, nat_tests)

pub differ-below : (a b : ℕ) → b < a → nat_eq a b ≡ false
differ-below a b h = grind (arith, nat_tests)
