-- What zeros behind the first bits of an address leave.
use Rattle.std.proofs.Common.{◌≡◌, ℕ, ◌+◌, ◌-◌, ◌*◌, ◌<◌, ◌≤◌, ◌/◌, ◌%◌, ◌^◌, ◌&&◌, List, [], ◌∷◌, ◌++◌, length, get_or, take, drop, set, arith, refl, sym, ◌∙◌, ap, Bool, true, false, nat_eq, inl, inr}
use Rattle.std.specs.Prelude.{if◌then◌else◌}
use Rattle.std.proofs.Math.Nat.{mul_assoc}
use Rattle.std.proofs.lemmas.Bool.{cases_lt, ne_eqb}
use Rattle.std.proofs.lemmas.List.{append_assoc, drop-set-lt, drop_more, take_more_set}
use Rattle.std.proofs.lemmas.Nat.{pow-add, shl-shr}
use Rattle.std.specs.Cmp.Lexicographic.{pointwise}
use Rattle.stick_key.specs.Ipv6Printed.{is_mapped, mapped_prefix}
use Rattle.rule_addresses.specs.Laws.{LeavesWhole, MasksMapped, MasksOnce}
use Rattle.rule_addresses.specs.Prefix.{byte_prefix, first_bits, masked}
use Rattle.rule_addresses.specs.declared.address.Address.TheVariants.{V4, V6}
use Rattle.rule_addresses.specs.declared.masking.Prefixes.{Prefixes}

-- where all bits are kept, nothing changes
pub whole_byte : (n byte : ℕ) → 8 ≤ n → byte_prefix n byte ≡ byte
whole_byte n byte many =
    let none : 8 - n ≡ 0 = omega (arith, many) in
    rw none (omega arith)

pub kept_whole : (n : ℕ) (bytes : List ℕ) → length bytes ≤ n / 8 → first_bits n bytes ≡ bytes
kept_whole n [] many = refl
kept_whole n (byte ∷ bytes) many = λ i. whole_byte n byte (omega (arith, many)) i ∷ kept_whole (n - 8) bytes (omega (arith, many)) i

-- one byte more is done
pub one_more : (n i byte : ℕ) (bytes : List ℕ) → i < length bytes → byte ≡ byte_prefix n (get_or bytes i 0) →
    take (i + 1) (set bytes i byte) ++ first_bits (n - 8) (drop (i + 1) (set bytes i byte)) ≡ take i bytes ++ first_bits n (drop i bytes)
one_more n i byte bytes inside is =
    rw (take_more_set bytes i byte inside, drop-set-lt (i + 1) bytes i byte (omega arith), drop_more bytes i 0 inside, is)
    (append_assoc (take i bytes) (byte_prefix n (get_or bytes i 0) ∷ []) (first_bits (n - 8) (drop (i + 1) bytes)))

-- bits that were kept once are kept again
pub twice : (n : ℕ) (bytes : List ℕ) → first_bits n (first_bits n bytes) ≡ first_bits n bytes
twice n [] = refl
twice n (byte ∷ bytes) = λ i. (shl-shr (byte / 2 ^ (8 - n)) (8 - n) i * 2 ^ (8 - n)) ∷ twice (n - 8) bytes i

-- where bytes begin so as they did, as far as all bits are kept
kept_start : (n : ℕ) (start bytes : List ℕ) → 8 * length start ≤ n → pointwise nat_eq start (take (length start) (first_bits n bytes)) ≡ pointwise nat_eq start (take (length start) bytes)
kept_start n [] bytes many = refl
kept_start n (x ∷ start) [] many = refl
kept_start n (x ∷ start) (byte ∷ bytes) many =
    λ i. nat_eq x (whole_byte n byte (omega (arith, many)) i) && kept_start (n - 8) start bytes (omega (arith, many)) i

-- a byte that lost its last bit is even
even_byte : (n byte : ℕ) → n < 8 → byte_prefix n byte % 2 ≡ 0
even_byte n byte few =
    let place : 8 - n ≡ (7 - n) + 1 = omega (arith, few) in
    let q : ℕ = byte / 2 ^ (8 - n) in
    let double : 2 ^ (7 - n + 1) ≡ 2 ^ (7 - n) * 2 = pow-add 2 (7 - n) 1 in
    let halves : byte_prefix n byte ≡ q * 2 ^ (7 - n) * 2 = ap (λ m. q * 2 ^ m) place ∙ ap (λ m. q * m) double ∙ sym (mul_assoc q (2 ^ (7 - n)) 2) in
    omega (arith, halves)

-- the last of some bytes is odd
abbrev EndsOdd : List ℕ → Type 0
EndsOdd [] = ⊥
EndsOdd (x ∷ []) = x % 2 ≡ 1
EndsOdd (x ∷ y ∷ bytes) = EndsOdd (y ∷ bytes)

never : (b : Bool) → (b && false) ≡ false
never true = refl
never false = refl

-- what was cut doesn't begin with such bytes
cut_start : (n : ℕ) (start bytes : List ℕ) → EndsOdd start → n < 8 * length start → pointwise nat_eq start (take (length start) (first_bits n bytes)) ≡ false
cut_start n [] bytes odd few = absurd odd
cut_start n (x ∷ []) [] odd few = refl
cut_start n (x ∷ []) (byte ∷ bytes) odd few =
    ap (λ b. b && pointwise nat_eq [] (take 0 (first_bits (n - 8) bytes))) (ne_eqb x (byte_prefix n byte) (λ same. omega (arith, odd, same, even_byte n byte (omega (arith, few)))))
cut_start n (x ∷ y ∷ start) [] odd few = refl
cut_start n (x ∷ y ∷ start) (byte ∷ bytes) odd few =
    ap (λ b. nat_eq x (byte_prefix n byte) && b) (cut_start (n - 8) (y ∷ start) bytes odd (omega (arith, few))) ∙ never (nat_eq x (byte_prefix n byte))

-- an address that stands for an IPv4 one still does so, and no other does
still_mapped : (prefixes : Prefixes) (bytes : List ℕ) (mapped : Bool) → is_mapped bytes ≡ mapped →
    is_mapped (first_bits (if mapped then 96 + prefixes.ipv4 else prefixes.ipv6) bytes) ≡ mapped
still_mapped prefixes bytes true is = kept_start (96 + prefixes.ipv4) mapped_prefix bytes (omega arith) ∙ is
still_mapped prefixes bytes false is = elim (cases_lt prefixes.ipv6 96) [
  | inl few ↦ cut_start prefixes.ipv6 mapped_prefix bytes refl few
  | inr many ↦ kept_start prefixes.ipv6 mapped_prefix bytes many ∙ is
]

pub masks_once : MasksOnce
unfolding masked
masks_once prefixes (V4 bytes) = ap V4 (twice prefixes.ipv4 bytes)
masks_once prefixes (V6 bytes) = again (is_mapped bytes) refl
  where
    again : (mapped : Bool) → is_mapped bytes ≡ mapped → masked prefixes (masked prefixes (V6 bytes)) ≡ masked prefixes (V6 bytes)
    again mapped is = rw (is, still_mapped prefixes bytes mapped is) (ap V6 (twice (if mapped then 96 + prefixes.ipv4 else prefixes.ipv6) bytes))

pub leaves_whole : LeavesWhole
unfolding masked
leaves_whole (V4 bytes) is = ap V4 (kept_whole 32 bytes (omega (arith, is.1)))
leaves_whole (V6 bytes) is = all (is_mapped bytes)
  where
    all : (mapped : Bool) → V6 (first_bits (if mapped then 96 + 32 else 128) bytes) ≡ V6 bytes
    all true = ap V6 (kept_whole 128 bytes (omega (arith, is.1)))
    all false = ap V6 (kept_whole 128 bytes (omega (arith, is.1)))

pub masks_mapped : MasksMapped
unfolding masked
masks_mapped prefixes bytes = ap V6 (behind (96 + prefixes.ipv4) mapped_prefix bytes (omega arith)) ∙ ap (λ n. V6 (mapped_prefix ++ first_bits n bytes)) (omega arith)
  where
    behind : (n : ℕ) (start bytes : List ℕ) → 8 * length start ≤ n → first_bits n (start ++ bytes) ≡ start ++ first_bits (n - 8 * length start) bytes
    behind n [] bytes many = ap (λ m. first_bits m bytes) (omega arith)
    behind n (x ∷ start) bytes many =
        let left : n - 8 - 8 * length start ≡ n - 8 * length (x ∷ start) = omega arith in
        λ i. whole_byte n x (omega (arith, many)) i ∷ (behind (n - 8) start bytes (omega (arith, many)) ∙ ap (λ m. start ++ first_bits m bytes) left) i
