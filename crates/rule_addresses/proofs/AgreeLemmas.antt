-- Where the first bits of bytes are the same.
use Rattle.std.proofs.Common.{◌≡◌, ℕ, ◌+◌, ◌-◌, ◌*◌, ◌<◌, ◌≤◌, ◌/◌, ◌^◌, List, [], ◌∷◌, length, get_or, arith, refl, sym, ◌∙◌, ap, false, inl, inr}
use Rattle.std.proofs.Math.Nat.{add-mul-div_left, mul_assoc, mul_comm}
use Rattle.std.proofs.lemmas.Bool.{cases_lt, eq-eqb, eqb-true}
use Rattle.std.proofs.lemmas.Nat.{mul-add-lt, pow-add, pow_pos, same_from_place, shl-shr, shr_high, shr-shr, shr_below}
use Rattle.std.specs.Int.{from_be_bytes, w32, w128}
use Rattle.stick_key.specs.Dotted.{AreBytes}
use Rattle.stick_key.specs.Ipv6Printed.{is_mapped}
use Rattle.rule_addresses.proofs.PrefixLemmas.{whole_byte}
use Rattle.rule_addresses.specs.Laws.{JoinsIpv4, JoinsIpv6}
use Rattle.rule_addresses.specs.Prefix.{byte_prefix, first_bits, masked}
use Rattle.rule_addresses.specs.declared.address.Address.{Address}
use Rattle.rule_addresses.specs.declared.address.Address.TheVariants.{V4, V6}
use Rattle.rule_addresses.specs.declared.masking.Prefixes.{Prefixes}

-- bytes as one number, the highest first
abbrev value : List ℕ → ℕ
value [] = 0
value (byte ∷ bytes) = byte * 2 ^ (8 * length bytes) + value bytes

value_below : (bytes : List ℕ) → AreBytes bytes → value bytes < 2 ^ (8 * length bytes)
value_below [] are = omega arith
value_below (byte ∷ bytes) are =
    let place : 8 * length (byte ∷ bytes) ≡ 8 * length bytes + 8 = omega arith in
    let bound : 2 ^ (8 * length (byte ∷ bytes)) ≡ 2 ^ (8 * length bytes) * 256 = ap (λ m. 2 ^ m) place ∙ pow-add 2 (8 * length bytes) 8 in
    omega (arith, bound, mul-add-lt byte (2 ^ (8 * length bytes)) (value bytes) 256 are.0 (value_below bytes are.1))

-- the number without its last bits, where a part of the first byte is left, or all of it and more
of_first : (byte rest k r : ℕ) → rest < 2 ^ k → (byte * 2 ^ k + rest) / 2 ^ (k + r) ≡ byte / 2 ^ r
of_first byte rest k r below = sym (shr-shr (byte * 2 ^ k + rest) k r) ∙ ap (λ m. m / 2 ^ r) (shr_high byte k rest below)

added : (a p rest : ℕ) → 0 < p → (a * p + rest) / p ≡ a + rest / p
added a p rest some =
    let turned : a * p + rest ≡ rest + p * a = omega (arith, mul_comm a p) in
    ap (λ m. m / p) turned ∙ add-mul-div_left rest a some ∙ omega arith

of_more : (byte rest k m : ℕ) → (byte * 2 ^ (k + m) + rest) / 2 ^ m ≡ byte * 2 ^ k + rest / 2 ^ m
of_more byte rest k m =
    let split : byte * 2 ^ (k + m) ≡ byte * 2 ^ k * 2 ^ m = ap (λ p. byte * p) (pow-add 2 k m) ∙ sym (mul_assoc byte (2 ^ k) (2 ^ m)) in
    ap (λ p. (p + rest) / 2 ^ m) split ∙ added (byte * 2 ^ k) (2 ^ m) rest (pow_pos m)

-- the number of bytes without all but the first n bits
abbrev high : ℕ → List ℕ → ℕ
high n bytes = value bytes / 2 ^ (8 * length bytes - n)

high_first : (n byte : ℕ) (bytes : List ℕ) → AreBytes bytes → n ≤ 8 → high n (byte ∷ bytes) ≡ byte / 2 ^ (8 - n)
high_first n byte bytes are few =
    let place : 8 * length (byte ∷ bytes) - n ≡ 8 * length bytes + (8 - n) = omega (arith, few) in
    ap (λ m. value (byte ∷ bytes) / 2 ^ m) place ∙ of_first byte (value bytes) (8 * length bytes) (8 - n) (value_below bytes are)

-- how many bits stand behind the first byte, of those that are left
abbrev behind : ℕ → ℕ → ℕ
behind n count = 8 * count - (8 * count - (n - 8))

high_more : (n byte : ℕ) (bytes : List ℕ) → 8 ≤ n → high n (byte ∷ bytes) ≡ byte * 2 ^ behind n (length bytes) + high (n - 8) bytes
high_more n byte bytes many =
    let place : 8 * length (byte ∷ bytes) - n ≡ 8 * length bytes - (n - 8) = omega (arith, many) in
    let parts : 8 * length bytes ≡ behind n (length bytes) + (8 * length bytes - (n - 8)) = omega arith in
    ap (λ m. value (byte ∷ bytes) / 2 ^ m) place ∙ ap (λ m. (byte * 2 ^ m + value bytes) / 2 ^ (8 * length bytes - (n - 8))) parts
    ∙ of_more byte (value bytes) (behind n (length bytes)) (8 * length bytes - (n - 8))

high_below : (n : ℕ) (bytes : List ℕ) → AreBytes bytes → high (n - 8) bytes < 2 ^ behind n (length bytes)
high_below n bytes are =
    let parts : 8 * length bytes ≡ behind n (length bytes) + (8 * length bytes - (n - 8)) = omega arith in
    shr_below (value bytes) (behind n (length bytes)) (8 * length bytes - (n - 8)) (rw (← parts) (value_below bytes are))

-- no bit is left
no_byte : (byte : ℕ) → byte < 256 → byte_prefix 0 byte ≡ 0
no_byte byte below = omega (arith, below)

nothing_left : (a b : List ℕ) → length a ≡ length b → AreBytes a → AreBytes b → first_bits 0 a ≡ first_bits 0 b
nothing_left [] [] long are_a are_b = refl
nothing_left [] (y ∷ b) long are_a are_b = absurd (omega (arith, long))
nothing_left (x ∷ a) [] long are_a are_b = absurd (omega (arith, long))
nothing_left (x ∷ a) (y ∷ b) long are_a are_b =
    λ i. (no_byte x are_a.0 ∙ sym (no_byte y are_b.0)) i ∷ nothing_left a b (omega (arith, long)) are_a.1 are_b.1 i

abbrev head_of : List ℕ → ℕ
head_of [] = 0
head_of (x ∷ bytes) = x

abbrev tail_of : List ℕ → List ℕ
tail_of [] = []
tail_of (x ∷ bytes) = bytes

same_shift : (r x y : ℕ) → x / 2 ^ r * 2 ^ r ≡ y / 2 ^ r * 2 ^ r → x / 2 ^ r ≡ y / 2 ^ r
same_shift r x y same = sym (shl-shr (x / 2 ^ r) r) ∙ ap (λ m. m / 2 ^ r) same ∙ shl-shr (y / 2 ^ r) r

same_high : (n : ℕ) (a b : List ℕ) → length a ≡ length b → AreBytes a → AreBytes b → first_bits n a ≡ first_bits n b → high n a ≡ high n b
same_high n [] [] long are_a are_b same = refl
same_high n [] (y ∷ b) long are_a are_b same = absurd (omega (arith, long))
same_high n (x ∷ a) [] long are_a are_b same = absurd (omega (arith, long))
same_high n (x ∷ a) (y ∷ b) long are_a are_b same =
    let long_rest : length a ≡ length b = omega (arith, long) in
    let first : byte_prefix n x ≡ byte_prefix n y = ap head_of same in
    elim (cases_lt 8 n) [
      | inl many ↦
          let bytes : x ≡ y = sym (whole_byte n x (omega (arith, many))) ∙ first ∙ whole_byte n y (omega (arith, many)) in
          let rest : high (n - 8) a ≡ high (n - 8) b = same_high (n - 8) a b long_rest are_a.1 are_b.1 (ap tail_of same) in
          high_more n x a (omega (arith, many)) ∙ (λ i. bytes i * 2 ^ behind n (long_rest i) + rest i) ∙ sym (high_more n y b (omega (arith, many)))
      | inr few ↦ high_first n x a are_a.1 few ∙ same_shift (8 - n) x y first ∙ sym (high_first n y b are_b.1 few)
    ]

same_bits : (n : ℕ) (a b : List ℕ) → length a ≡ length b → AreBytes a → AreBytes b → high n a ≡ high n b → first_bits n a ≡ first_bits n b
same_bits n [] [] long are_a are_b same = refl
same_bits n [] (y ∷ b) long are_a are_b same = absurd (omega (arith, long))
same_bits n (x ∷ a) [] long are_a are_b same = absurd (omega (arith, long))
same_bits n (x ∷ a) (y ∷ b) long are_a are_b same =
    let long_rest : length a ≡ length b = omega (arith, long) in
    elim (cases_lt 8 n) [
      | inl many ↦
          let places = same_from_place x (high (n - 8) a) y (high (n - 8) b) (2 ^ behind n (length a)) (high_below n a are_a.1)
          (rw long_rest (high_below n b are_b.1))
          (sym (high_more n x a (omega (arith, many))) ∙ same ∙ high_more n y b (omega (arith, many)) ∙ ap (λ m. y * 2 ^ behind n m + high (n - 8) b) (sym long_rest)) in
          λ i. byte_prefix n (places.0 i) ∷ same_bits (n - 8) a b long_rest are_a.1 are_b.1 places.1 i
      | inr few ↦
          let first : x / 2 ^ (8 - n) ≡ y / 2 ^ (8 - n) = sym (high_first n x a are_a.1 few) ∙ same ∙ high_first n y b are_b.1 few in
          let none : n - 8 ≡ 0 = omega (arith, few) in
          λ i. (first i * 2 ^ (8 - n)) ∷ (ap (λ m. first_bits m a) none ∙ nothing_left a b long_rest are_a.1 are_b.1 ∙ ap (λ m. first_bits m b) (sym none)) i
    ]

-- the number that an address is
four_sum : (bytes : List ℕ) → from_be_bytes w32 bytes ≡ get_or bytes 0 0 * 16777216 + get_or bytes 1 0 * 65536 + get_or bytes 2 0 * 256 + get_or bytes 3 0
four_sum bytes = omega arith

four_nested : (x0 x1 x2 x3 : ℕ) → x0 * 16777216 + x1 * 65536 + x2 * 256 + x3 ≡ x0 * 16777216 + (x1 * 65536 + (x2 * 256 + (x3 * 1 + 0)))
four_nested x0 x1 x2 x3 = omega arith

four : (bytes : List ℕ) → length bytes ≡ 4 → from_be_bytes w32 bytes ≡ value bytes
four (x0 ∷ x1 ∷ x2 ∷ x3 ∷ []) long = four_sum (x0 ∷ x1 ∷ x2 ∷ x3 ∷ []) ∙ four_nested x0 x1 x2 x3
four [] long = absurd (omega (arith, long))
four (x0 ∷ []) long = absurd (omega (arith, long))
four (x0 ∷ x1 ∷ []) long = absurd (omega (arith, long))
four (x0 ∷ x1 ∷ x2 ∷ []) long = absurd (omega (arith, long))
four (x0 ∷ x1 ∷ x2 ∷ x3 ∷ x4 ∷ rest) long = absurd (omega (arith, long))

sixteen_sum : (bytes : List ℕ) → from_be_bytes w128 bytes ≡ get_or bytes 0 0 * 1329227995784915872903807060280344576 + get_or bytes 1 0 * 5192296858534827628530496329220096 + get_or bytes 2 0 * 20282409603651670423947251286016 + get_or bytes 3 0 * 79228162514264337593543950336 + get_or bytes 4 0 * 309485009821345068724781056 + get_or bytes 5 0 * 1208925819614629174706176 + get_or bytes 6 0 * 4722366482869645213696 + get_or bytes 7 0 * 18446744073709551616 + get_or bytes 8 0 * 72057594037927936 + get_or bytes 9 0 * 281474976710656 + get_or bytes 10 0 * 1099511627776 + get_or bytes 11 0 * 4294967296 + get_or bytes 12 0 * 16777216 + get_or bytes 13 0 * 65536 + get_or bytes 14 0 * 256 + get_or bytes 15 0
sixteen_sum bytes = omega arith

sixteen_nested : (x0 x1 x2 x3 x4 x5 x6 x7 x8 x9 x10 x11 x12 x13 x14 x15 : ℕ) → x0 * 1329227995784915872903807060280344576 + x1 * 5192296858534827628530496329220096 + x2 * 20282409603651670423947251286016 + x3 * 79228162514264337593543950336 + x4 * 309485009821345068724781056 + x5 * 1208925819614629174706176 + x6 * 4722366482869645213696 + x7 * 18446744073709551616 + x8 * 72057594037927936 + x9 * 281474976710656 + x10 * 1099511627776 + x11 * 4294967296 + x12 * 16777216 + x13 * 65536 + x14 * 256 + x15 ≡ x0 * 1329227995784915872903807060280344576 + (x1 * 5192296858534827628530496329220096 + (x2 * 20282409603651670423947251286016 + (x3 * 79228162514264337593543950336 + (x4 * 309485009821345068724781056 + (x5 * 1208925819614629174706176 + (x6 * 4722366482869645213696 + (x7 * 18446744073709551616 + (x8 * 72057594037927936 + (x9 * 281474976710656 + (x10 * 1099511627776 + (x11 * 4294967296 + (x12 * 16777216 + (x13 * 65536 + (x14 * 256 + (x15 * 1 + 0)))))))))))))))
sixteen_nested x0 x1 x2 x3 x4 x5 x6 x7 x8 x9 x10 x11 x12 x13 x14 x15 = omega arith

sixteen : (bytes : List ℕ) → length bytes ≡ 16 → from_be_bytes w128 bytes ≡ value bytes
sixteen (x0 ∷ x1 ∷ x2 ∷ x3 ∷ x4 ∷ x5 ∷ x6 ∷ x7 ∷ x8 ∷ x9 ∷ x10 ∷ x11 ∷ x12 ∷ x13 ∷ x14 ∷ x15 ∷ []) long = sixteen_sum (x0 ∷ x1 ∷ x2 ∷ x3 ∷ x4 ∷ x5 ∷ x6 ∷ x7 ∷ x8 ∷ x9 ∷ x10 ∷ x11 ∷ x12 ∷ x13 ∷ x14 ∷ x15 ∷ []) ∙ sixteen_nested x0 x1 x2 x3 x4 x5 x6 x7 x8 x9 x10 x11 x12 x13 x14 x15
sixteen [] long = absurd (omega (arith, long))
sixteen (x0 ∷ []) long = absurd (omega (arith, long))
sixteen (x0 ∷ x1 ∷ []) long = absurd (omega (arith, long))
sixteen (x0 ∷ x1 ∷ x2 ∷ []) long = absurd (omega (arith, long))
sixteen (x0 ∷ x1 ∷ x2 ∷ x3 ∷ []) long = absurd (omega (arith, long))
sixteen (x0 ∷ x1 ∷ x2 ∷ x3 ∷ x4 ∷ []) long = absurd (omega (arith, long))
sixteen (x0 ∷ x1 ∷ x2 ∷ x3 ∷ x4 ∷ x5 ∷ []) long = absurd (omega (arith, long))
sixteen (x0 ∷ x1 ∷ x2 ∷ x3 ∷ x4 ∷ x5 ∷ x6 ∷ []) long = absurd (omega (arith, long))
sixteen (x0 ∷ x1 ∷ x2 ∷ x3 ∷ x4 ∷ x5 ∷ x6 ∷ x7 ∷ []) long = absurd (omega (arith, long))
sixteen (x0 ∷ x1 ∷ x2 ∷ x3 ∷ x4 ∷ x5 ∷ x6 ∷ x7 ∷ x8 ∷ []) long = absurd (omega (arith, long))
sixteen (x0 ∷ x1 ∷ x2 ∷ x3 ∷ x4 ∷ x5 ∷ x6 ∷ x7 ∷ x8 ∷ x9 ∷ []) long = absurd (omega (arith, long))
sixteen (x0 ∷ x1 ∷ x2 ∷ x3 ∷ x4 ∷ x5 ∷ x6 ∷ x7 ∷ x8 ∷ x9 ∷ x10 ∷ []) long = absurd (omega (arith, long))
sixteen (x0 ∷ x1 ∷ x2 ∷ x3 ∷ x4 ∷ x5 ∷ x6 ∷ x7 ∷ x8 ∷ x9 ∷ x10 ∷ x11 ∷ []) long = absurd (omega (arith, long))
sixteen (x0 ∷ x1 ∷ x2 ∷ x3 ∷ x4 ∷ x5 ∷ x6 ∷ x7 ∷ x8 ∷ x9 ∷ x10 ∷ x11 ∷ x12 ∷ []) long = absurd (omega (arith, long))
sixteen (x0 ∷ x1 ∷ x2 ∷ x3 ∷ x4 ∷ x5 ∷ x6 ∷ x7 ∷ x8 ∷ x9 ∷ x10 ∷ x11 ∷ x12 ∷ x13 ∷ []) long = absurd (omega (arith, long))
sixteen (x0 ∷ x1 ∷ x2 ∷ x3 ∷ x4 ∷ x5 ∷ x6 ∷ x7 ∷ x8 ∷ x9 ∷ x10 ∷ x11 ∷ x12 ∷ x13 ∷ x14 ∷ []) long = absurd (omega (arith, long))
sixteen (x0 ∷ x1 ∷ x2 ∷ x3 ∷ x4 ∷ x5 ∷ x6 ∷ x7 ∷ x8 ∷ x9 ∷ x10 ∷ x11 ∷ x12 ∷ x13 ∷ x14 ∷ x15 ∷ x16 ∷ rest) long = absurd (omega (arith, long))

abbrev bytes_in : Address → List ℕ
bytes_in (V4 bytes) = bytes
bytes_in (V6 bytes) = bytes

high_four : (n : ℕ) (bytes : List ℕ) → length bytes ≡ 4 → high n bytes ≡ from_be_bytes w32 bytes / 2 ^ (32 - n)
high_four n bytes long = ap (λ v. v / 2 ^ (8 * length bytes - n)) (sym (four bytes long)) ∙ ap (λ l. from_be_bytes w32 bytes / 2 ^ (8 * l - n)) long

high_sixteen : (n : ℕ) (bytes : List ℕ) → length bytes ≡ 16 → high n bytes ≡ from_be_bytes w128 bytes / 2 ^ (128 - n)
high_sixteen n bytes long = ap (λ v. v / 2 ^ (8 * length bytes - n)) (sym (sixteen bytes long)) ∙ ap (λ l. from_be_bytes w128 bytes / 2 ^ (8 * l - n)) long

pub joins_ipv4 : JoinsIpv4
unfolding masked
joins_ipv4 prefixes a b is_a is_b =
    let long : length a ≡ length b = is_a.1 ∙ sym is_b.1 in (
      λ same. eq-eqb _ _ (sym (high_four prefixes.ipv4 a is_a.1) ∙ same_high prefixes.ipv4 a b long is_a.0 is_b.0 (ap bytes_in same) ∙ high_four prefixes.ipv4 b is_b.1),
      λ test. ap V4 (same_bits prefixes.ipv4 a b long is_a.0 is_b.0 (high_four prefixes.ipv4 a is_a.1 ∙ eqb-true _ _ test ∙ sym (high_four prefixes.ipv4 b is_b.1))),
    )

-- an address that stands for no IPv4 one keeps as many bits as IPv6 addresses do
kept : (prefixes : Prefixes) (bytes : List ℕ) → is_mapped bytes ≡ false → masked prefixes (V6 bytes) ≡ V6 (first_bits prefixes.ipv6 bytes)
unfolding masked
kept prefixes bytes plain = rw plain refl

pub joins_ipv6 : JoinsIpv6
joins_ipv6 prefixes a b is_a is_b plain_a plain_b =
    let long : length a ≡ length b = is_a.1 ∙ sym is_b.1 in (
      λ same. eq-eqb _ _ (sym (high_sixteen prefixes.ipv6 a is_a.1) ∙ same_high prefixes.ipv6 a b long is_a.0 is_b.0 (ap bytes_in (sym (kept prefixes a plain_a) ∙ same ∙ kept prefixes b plain_b)) ∙ high_sixteen prefixes.ipv6 b is_b.1),
      λ test. kept prefixes a plain_a ∙ ap V6 (same_bits prefixes.ipv6 a b long is_a.0 is_b.0 (high_sixteen prefixes.ipv6 a is_a.1 ∙ eqb-true _ _ test ∙ sym (high_sixteen prefixes.ipv6 b is_b.1))) ∙ sym (kept prefixes b plain_b),
    )
