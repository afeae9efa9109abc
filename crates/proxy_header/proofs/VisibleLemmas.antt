-- The bytes and the lengths of the texts of addresses and numbers.
use Rattle.std.proofs.Common.{◌≡◌, ℕ, suc, zero, ◌+◌, ◌*◌, ◌<◌, ◌≤◌, ◌^◌, List, [], ◌∷◌, ◌++◌, length, map, take, drop, arith, refl, ap, false, nat_lt, codes, length-append, length-drop, inl, inr}
use Rattle.std.proofs.lemmas.Bool.{cases_lt, cond_both, lt-ltb, ltb-false}
use Rattle.std.proofs.lemmas.Fmt.{decimal_is_IsNumeral, digits_is_IsNumeral, length-decimal-le}
use Rattle.std.proofs.lemmas.List.{length-map, length-take}
use Rattle.std.specs.Char.{digit_value}
use Rattle.std.specs.Fmt.{digits}
use Rattle.std.specs.List.{AllByRecursion, join_with_byte}
use Rattle.std.specs.Prelude.{decimal}
use Rattle.std.specs.Str.Parse.{AllDigits}
use Rattle.stick_key.specs.Dotted.{AreBytes, dotted}
use Rattle.stick_key.specs.Ipv6Printed.{first_longest, ipv6, is_mapped, joined, longest, shortened}
use Rattle.stick_key.specs.Ipv6Text.{pairs}
use Rattle.rule_addresses.specs.Laws.{IsAddress}
use Rattle.rule_addresses.specs.declared.address.Address.{Address}
use Rattle.rule_addresses.specs.declared.address.Address.TheVariants.{V4, V6}
use Rattle.proxy_header.specs.Written.{text_of}
use Rattle.proxy_header.proofs.GroupLemmas.{one_digit, two_digits, three_digits, four_digits}
use Rattle.proxy_header.proofs.RunLemmas.{longest_reached}

-- no byte is a space or below
abbrev pub AreVisible : List ℕ → Type 0
AreVisible = AllByRecursion (λ byte. 32 < byte)

visible-append : (a b : List ℕ) → AreVisible a → AreVisible b → AreVisible (a ++ b)
visible-append [] b are_a are_b = are_b
visible-append (x ∷ a) b are_a are_b = (are_a.0, visible-append a b are_a.1 are_b)

visible-join : (separator : ℕ) (parts : List (List ℕ)) → 32 < separator → AllByRecursion AreVisible parts → AreVisible (join_with_byte separator parts)
visible-join separator [] above are = tt
visible-join separator (part ∷ []) above are = are.0
visible-join separator (part ∷ next ∷ parts) above are =
    visible-append part (separator ∷ join_with_byte separator (next ∷ parts)) are.0 (above, visible-join separator (next ∷ parts) above are.1)

-- a digit is no space
digit_visible : (c : ℕ) → digit_value c < 16 → 32 < c
digit_visible c digit = elim (cases_lt c 48) [
  | inl small ↦ let none : digit_value c ≡ 36 = rw (lt-ltb c 48 small) refl in absurd (omega (arith, digit, none))
  | inr large ↦ omega (arith, large)
]

visible-digits : (radix : ℕ) (text : List ℕ) → radix ≤ 16 → AllDigits radix text → AreVisible text
visible-digits radix [] few are = tt
visible-digits radix (c ∷ text) few are = (digit_visible c (omega (arith, are.0, few)), visible-digits radix text few are.1)

pub visible-decimal : (n : ℕ) → n < 2 ^ 64 → AreVisible (decimal n)
visible-decimal n small = visible-digits 10 (decimal n) (omega arith) (decimal_is_IsNumeral n small).0.1

-- groups of 16 bits
abbrev AreGroups : List ℕ → Type 0
AreGroups = AllByRecursion (λ group. group < 65536)

visible-group : (n : ℕ) → n < 65536 → AreVisible (digits 16 false n)
visible-group n small = visible-digits 16 (digits 16 false n) (omega arith) (digits_is_IsNumeral 16 false (omega arith) (omega arith) n (omega arith)).0.1

visible-groups : (groups : List ℕ) → AreGroups groups → AllByRecursion AreVisible (map (digits 16 false) groups)
visible-groups [] are = tt
visible-groups (group ∷ groups) are = (visible-group group are.0, visible-groups groups are.1)

visible-decimals : (bytes : List ℕ) → AreBytes bytes → AllByRecursion AreVisible (map decimal bytes)
visible-decimals [] are = tt
visible-decimals (byte ∷ bytes) are = (visible-decimal byte (omega (arith, are.0)), visible-decimals bytes are.1)

groups-take : (n : ℕ) (groups : List ℕ) → AreGroups groups → AreGroups (take n groups)
groups-take zero groups are = tt
groups-take (suc n) [] are = tt
groups-take (suc n) (group ∷ groups) are = (are.0, groups-take n groups are.1)

groups-drop : (n : ℕ) (groups : List ℕ) → AreGroups groups → AreGroups (drop n groups)
groups-drop zero groups are = are
groups-drop (suc n) [] are = tt
groups-drop (suc n) (group ∷ groups) are = groups-drop n groups are.1

bytes-drop : (n : ℕ) (bytes : List ℕ) → AreBytes bytes → AreBytes (drop n bytes)
bytes-drop zero bytes are = are
bytes-drop (suc n) [] are = tt
bytes-drop (suc n) (byte ∷ bytes) are = bytes-drop n bytes are.1

groups-pairs : (bytes : List ℕ) → AreBytes bytes → AreGroups (pairs bytes)
groups-pairs [] are = tt
groups-pairs (high ∷ []) are = (omega (arith, are.0), tt)
groups-pairs (high ∷ low ∷ bytes) are = (omega (arith, are.0, are.1.0), groups-pairs bytes are.1.1)

length-pairs : (n : ℕ) (bytes : List ℕ) → length bytes ≡ 2 * n → length (pairs bytes) ≡ n
length-pairs zero [] even = refl
length-pairs (suc n) [] even = absurd (omega (arith, even))
length-pairs n (high ∷ []) even = absurd (omega (arith, even))
length-pairs zero (high ∷ low ∷ bytes) even = absurd (omega (arith, even))
length-pairs (suc n) (high ∷ low ∷ bytes) even = ap suc (length-pairs n bytes (omega (arith, even)))

visible-dotted : (bytes : List ℕ) → AreBytes bytes → AreVisible (dotted bytes)
visible-dotted bytes are = visible-join 46 (map decimal bytes) (omega arith) (visible-decimals bytes are)

visible-joined : (groups : List ℕ) → AreGroups groups → AreVisible (joined groups)
visible-joined groups are = visible-join 58 (map (digits 16 false) groups) (omega arith) (visible-groups groups are)

visible-shortened : (groups : List ℕ) → AreGroups groups → AreVisible (shortened groups)
visible-shortened groups are = cond_both (nat_lt (longest groups) 2) _ _ AreVisible (λ _. visible-joined groups are) (λ _.
    visible-append (joined (take (first_longest groups) groups)) _ (visible-joined (take (first_longest groups) groups) (groups-take (first_longest groups) groups are))
    (omega arith, (omega arith, visible-joined (drop (first_longest groups + longest groups) groups) (groups-drop (first_longest groups + longest groups) groups are))))

mapped_start : AreVisible (codes "::ffff:")
mapped_start = (omega arith, (omega arith, (omega arith, (omega arith, (omega arith, (omega arith, (omega arith, tt)))))))

visible-ipv6 : (bytes : List ℕ) → AreBytes bytes → AreVisible (ipv6 bytes)
visible-ipv6 bytes are = cond_both (is_mapped bytes) _ _ AreVisible
    (λ _. visible-append (codes "::ffff:") (dotted (drop 12 bytes)) mapped_start (visible-dotted (drop 12 bytes) (bytes-drop 12 bytes are)))
    (λ _. visible-shortened (pairs bytes) (groups-pairs bytes are))

pub visible-text : (address : Address) → IsAddress address → AreVisible (text_of address)
visible-text (V4 bytes) is = visible-dotted bytes is.0
visible-text (V6 bytes) is = visible-ipv6 bytes is.0

-- texts of four bytes each, joined
abbrev AreShort : List (List ℕ) → Type 0
AreShort = AllByRecursion (λ part. length part ≤ 4)

length-join : (separator : ℕ) (parts : List (List ℕ)) → AreShort parts → length (join_with_byte separator parts) ≤ 5 * length parts
length-join separator [] are = omega arith
length-join separator (part ∷ []) are = omega (arith, are.0)
length-join separator (part ∷ next ∷ parts) are =
    omega (arith, are.0, length-join separator (next ∷ parts) are.1, length-append part (separator ∷ join_with_byte separator (next ∷ parts)))

short_group : (n : ℕ) → n < 65536 → length (digits 16 false n) ≤ 4
short_group n small = elim (cases_lt n 16) [
  | inl one ↦ omega (arith, ap length (one_digit n one))
  | inr one ↦ elim (cases_lt n 256) [
    | inl two ↦ omega (arith, ap length (two_digits n one two))
    | inr two ↦ elim (cases_lt n 4096) [
      | inl three ↦ omega (arith, ap length (three_digits n two three))
      | inr three ↦ omega (arith, ap length (four_digits n three small))
    ]
  ]
]

short-groups : (groups : List ℕ) → AreGroups groups → AreShort (map (digits 16 false) groups)
short-groups [] are = tt
short-groups (group ∷ groups) are = (short_group group are.0, short-groups groups are.1)

short-decimals : (bytes : List ℕ) → AreBytes bytes → AreShort (map decimal bytes)
short-decimals [] are = tt
short-decimals (byte ∷ bytes) are = (length-decimal-le 4 byte (omega arith) (omega (arith, are.0)) (omega (arith, are.0)), short-decimals bytes are.1)

length-dotted : (bytes : List ℕ) → AreBytes bytes → length (dotted bytes) ≤ 5 * length bytes
length-dotted bytes are = omega (arith, length-join 46 (map decimal bytes) (short-decimals bytes are), length-map bytes decimal)

length-joined : (groups : List ℕ) → AreGroups groups → length (joined groups) ≤ 5 * length groups
length-joined groups are = omega (arith, length-join 58 (map (digits 16 false) groups) (short-groups groups are), length-map groups (digits 16 false))

length-shortened : (groups : List ℕ) → AreGroups groups → length groups ≡ 8 → length (shortened groups) ≤ 40
length-shortened groups are eight = cond_both (nat_lt (longest groups) 2) _ _ (λ text. length text ≤ 40) (λ _. omega (arith, length-joined groups are, eight)) (λ test.
    let start : ℕ = first_longest groups in
    let zeros : ℕ = longest groups in
    let several : 2 ≤ zeros = ltb-false zeros 2 test in
    let inside : start < 8 = (longest_reached groups several).0 in
    let high = length-joined (take start groups) (groups-take start groups are) in
    let low = length-joined (drop (start + zeros) groups) (groups-drop (start + zeros) groups are) in
    omega (
      arith,
      several,
      inside,
      high,
      low,
      eight,
      length-take start groups,
      length-drop (start + zeros) groups,
      length-append (joined (take start groups)) (58 ∷ 58 ∷ joined (drop (start + zeros) groups)),
    ))

length-ipv6 : (bytes : List ℕ) → AreBytes bytes → length bytes ≡ 16 → length (ipv6 bytes) ≤ 40
length-ipv6 bytes are sixteen = cond_both (is_mapped bytes) _ _ (λ text. length text ≤ 40)
    (λ _. omega (arith, length-dotted (drop 12 bytes) (bytes-drop 12 bytes are), length-drop 12 bytes, sixteen, length-append (codes "::ffff:") (dotted (drop 12 bytes))))
    (λ _. length-shortened (pairs bytes) (groups-pairs bytes are) (length-pairs 8 bytes sixteen))

pub length-text : (address : Address) → IsAddress address → length (text_of address) ≤ 40
length-text (V4 bytes) is = omega (arith, length-dotted bytes is.0, is.1)
length-text (V6 bytes) is = length-ipv6 bytes is.0 is.1
