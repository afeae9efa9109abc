-- A printed IPv6 address, read again.
use Rattle.std.proofs.Common.{◌≡◌, ℕ, suc, zero, ◌+◌, ◌*◌, ◌/◌, ◌%◌, ◌<◌, ◌≤◌, ◌==◌, List, [], ◌∷◌, ◌++◌, length, length-drop, take, drop, get_or, map, max, replicate, flat_map, codes, arith, refl, sym, ◌∙◌, ap, Bool, true, false, one-add, subst, ◌⊎◌, inl, inr}
use Rattle.std.specs.Prelude.{nat_lt, if◌then◌else◌}
use Rattle.std.proofs.lemmas.Bool.Decides.{nat_tests, Decides-eqb}
use Rattle.std.proofs.lemmas.Fmt.{digits_is_IsNumeral}
use Rattle.std.proofs.lemmas.List.{drop-drop, take-append-drop}
use Rattle.std.proofs.lemmas.Slice.Eq.{starts_is}
use Rattle.std.proofs.lemmas.List.Sums.{passes_at_first, fails_before_first}
use Rattle.std.specs.Fmt.{digits}
use Rattle.std.specs.List.{AllByRecursion, fold, prefix_len, position_or_len}
use Rattle.std.specs.Str.Parse.{digits_value}
use Rattle.stick_key.specs.Dotted.{AreBytes, dotted, numbers}
use Rattle.stick_key.specs.Ipv6Printed.{first_longest, ipv6, is_mapped, joined, longest, mapped_prefix, places, shortened, zeros_from}
use Rattle.stick_key.specs.Ipv6Text.{IsHexGroup, IsIpv6, Spell, Spells, group_bytes, pairs}
use Rattle.stick_key.proofs.Ipv6Digits.{one_digit, two_digits, three_digits, four_digits}
use Rattle.stick_key.proofs.Ipv6Runs.{place_at, same_test, zeros_at}
use Rattle.stick_key.proofs.Printed.{dotted_reads}

-- groups of 16 bits
abbrev pub AreGroups : List ℕ → Type 0
AreGroups = AllByRecursion (λ group. group < 65536)

pub split : (a b : ℕ) → (a < b) ⊎ (b ≤ a)
split a zero = inr (omega arith)
split zero (suc b) = inl (omega arith)
split (suc a) (suc b) = elim (split a b) [ inl less ↦ inl (omega (arith, less)) | inr more ↦ inr (omega (arith, more)) ]

-- at most four digits
hex_short : (n : ℕ) → n < 65536 → length (digits 16 false n) ≤ 4
hex_short n small = elim (split n 16) [
  | inl one ↦ omega (arith, ap length (one_digit n one))
  | inr one ↦ elim (split n 256) [
    | inl two ↦ omega (arith, ap length (two_digits n one two))
    | inr two ↦ elim (split n 4096) [
      | inl three ↦ omega (arith, ap length (three_digits n two three))
      | inr three ↦ omega (arith, ap length (four_digits n three small))
    ]
  ]
]

pub hex_group : (n : ℕ) → n < 65536 → IsHexGroup (digits 16 false n) × (n ≡ digits_value 16 (digits 16 false n))
hex_group n small =
    let numeral = digits_is_IsNumeral 16 false (omega arith) (omega arith) n (omega arith) in
    ((numeral.0, hex_short n small), sym numeral.1)

-- groups in hexadecimal spell themselves
pub spell_hex : (dotted_end : Bool) (groups : List ℕ) → AreGroups groups → Spell dotted_end (map (digits 16 false) groups) groups
spell_hex dotted_end [] small = refl
spell_hex dotted_end (group ∷ []) small = inl ((hex_group group small.0).0, ap (λ n. n ∷ []) (hex_group group small.0).1)
spell_hex dotted_end (group ∷ next ∷ groups) small =
    ((hex_group group small.0).0, (next ∷ groups, ap (λ n. n ∷ next ∷ groups) (hex_group group small.0).1, spell_hex dotted_end (next ∷ groups) small.1))

pub groups-take : (n : ℕ) (groups : List ℕ) → AreGroups groups → AreGroups (take n groups)
groups-take zero groups small = tt
groups-take (suc n) [] small = tt
groups-take (suc n) (group ∷ groups) small = (small.0, groups-take n groups small.1)

pub groups-drop : (n : ℕ) (groups : List ℕ) → AreGroups groups → AreGroups (drop n groups)
groups-drop zero groups small = small
groups-drop (suc n) [] small = tt
groups-drop (suc n) (group ∷ groups) small = groups-drop n groups small.1

other_test : (a b : ℕ) → b < a → (a == b) ≡ false
other_test a b more = grind (arith, nat_tests)

test_same : (a b : ℕ) → (a == b) ≡ true → a ≡ b
test_same a b test = grind (arith, nat_tests)

-- a run of zeros, and what stands behind it
run_of_zeros : (groups : List ℕ) → groups ≡ replicate (prefix_len (λ group. group == 0) groups) 0 ++ drop (prefix_len (λ group. group == 0) groups) groups
run_of_zeros [] = refl
run_of_zeros (zero ∷ groups) = rw one-add (ap (λ rest. 0 ∷ rest) (run_of_zeros groups))
run_of_zeros (suc group ∷ groups) = let test : (suc group == 0) ≡ false = other_test (suc group) 0 (omega arith) in rw test refl

-- the greatest of a list is one of its numbers
pub fold_max-reached : (xs : List ℕ) (a : ℕ) → (fold max a xs ≡ a) ⊎ ((k : ℕ) × (k < length xs) × (get_or xs k 0 ≡ fold max a xs))
fold_max-reached [] a = inl refl
fold_max-reached (x ∷ xs) a = elim (fold_max-reached xs (max a x)) [
  | inl start ↦ elim (split a x) [
    | inl less ↦ let greater : x ≡ max a x = omega (arith, less) in inr (0, omega arith, greater ∙ sym start)
    | inr more ↦ let greater : max a x ≡ a = omega (arith, more) in inl (start ∙ greater)
  ]
  | inr later ↦ inr (suc later.0, omega (arith, later.1), later.2)
]

-- the first place that reaches a number, where one does
first_reached : (z : ℕ → ℕ) (m k : ℕ) → k < 8 → z k ≡ m →
    (position_or_len (λ place. z place == m) places < 8) × (z (position_or_len (λ place. z place == m) places) ≡ m)
first_reached z m k inside same =
    let first : ℕ = position_or_len (λ place. z place == m) places in
    let not_after : k < first → ⊥ = λ before.
    let fails = rw (place_at k inside) at (fails_before_first (λ place. z place == m) places k 0 before) in
    cc (fails, same_test (z k) m same) in
    let within : first < 8 = omega (arith, not_after) in
    (within, test_same (z first) m (rw (place_at first within) at (passes_at_first (λ place. z place == m) places 0 within)))

-- the first of the longest runs
pub longest_reached : (groups : List ℕ) → 2 ≤ longest groups → (first_longest groups < 8) × (zeros_from groups (first_longest groups) ≡ longest groups)
longest_reached groups long = elim (fold_max-reached (map (zeros_from groups) places) 0) [
  | inl none ↦ absurd (omega (arith, none, long))
  | inr some ↦ first_reached (zeros_from groups) (longest groups) some.0 some.1 (sym (zeros_at groups some.0 some.1) ∙ some.2)
]

pub run_cut : (groups : List ℕ) (start count : ℕ) → AreGroups groups → zeros_from groups start ≡ count →
    groups ≡ take start groups ++ (replicate count 0 ++ drop (start + count) groups)
run_cut groups start count small run =
    let zeros : drop start groups ≡ replicate count 0 ++ drop (start + count) groups =
    run_of_zeros (drop start groups) ∙ cc (run, drop-drop count start groups) in
    sym (take-append-drop start groups) ∙ ap (λ rest. take start groups ++ rest) zeros

-- eight groups with a run of zeros left out, or with none
spells_by_run : (groups : List ℕ) (start count : ℕ) → AreGroups groups → (2 ≤ count → zeros_from groups start ≡ count) →
    Spells (if nat_lt count 2 then joined groups else joined (take start groups) ++ (58 ∷ 58 ∷ joined (drop (start + count) groups))) groups
spells_by_run groups start count small run = elim (split count 2) [
  | inl short ↦ let test : nat_lt count 2 ≡ true = grind (arith, nat_tests) in
      rw test (inl (record { parts = map (digits 16 false) groups; spelled = refl; spell = spell_hex true groups small }))
  | inr long ↦ let test : nat_lt count 2 ≡ false = grind (arith, nat_tests) in
      let zeros : drop start groups ≡ replicate count 0 ++ drop (start + count) groups =
      run_of_zeros (drop start groups) ∙ cc (run long, drop-drop count start groups) in
      rw test (inr (record {
        prefix = map (digits 16 false) (take start groups);
        back = map (digits 16 false) (drop (start + count) groups);
        high = take start groups;
        low = drop (start + count) groups;
        zeros = count;
        spelled = refl;
        spell_front = spell_hex false (take start groups) (groups-take start groups small);
        spell_back = spell_hex true (drop (start + count) groups) (groups-drop (start + count) groups small);
        some_zeros = omega (arith, long);
        all = run_cut groups start count small (run long);
      }))
]

pub shortened_spells : (groups : List ℕ) → AreGroups groups → Spells (shortened groups) groups
shortened_spells groups small = spells_by_run groups (first_longest groups) (longest groups) small (λ long. (longest_reached groups long).1)

-- the bytes of an address, two at a time
pub pairs_small : (bytes : List ℕ) → AreBytes bytes → AreGroups (pairs bytes)
pairs_small [] small = tt
pairs_small (high ∷ []) small = (omega (arith, small.0), tt)
pairs_small (high ∷ low ∷ bytes) small = (omega (arith, small.0, small.1.0), pairs_small bytes small.1.1)

bytes_of_pairs : (n : ℕ) (bytes : List ℕ) → AreBytes bytes → length bytes ≡ 2 * n → bytes ≡ flat_map group_bytes (pairs bytes)
bytes_of_pairs n [] small even = refl
bytes_of_pairs n (high ∷ []) small even = absurd (omega (arith, even))
bytes_of_pairs zero (high ∷ low ∷ bytes) small even = absurd (omega (arith, even))
bytes_of_pairs (suc n) (high ∷ low ∷ bytes) small even =
    let first : (256 * high + low) / 256 ≡ high = omega (arith, small.1.0) in
    let second : (256 * high + low) % 256 ≡ low = omega (arith, small.1.0) in
    let rest : bytes ≡ flat_map group_bytes (pairs bytes) = bytes_of_pairs n bytes small.1.1 (omega (arith, even)) in
    cc

pub length-pairs : (n : ℕ) (bytes : List ℕ) → length bytes ≡ 2 * n → length (pairs bytes) ≡ n
length-pairs zero [] even = refl
length-pairs (suc n) [] even = absurd (omega (arith, even))
length-pairs n (high ∷ []) even = absurd (omega (arith, even))
length-pairs zero (high ∷ low ∷ bytes) even = absurd (omega (arith, even))
length-pairs (suc n) (high ∷ low ∷ bytes) even = ap suc (length-pairs n bytes (omega (arith, even)))

bytes-drop : (n : ℕ) (bytes : List ℕ) → AreBytes bytes → AreBytes (drop n bytes)
bytes-drop zero bytes small = small
bytes-drop (suc n) [] small = tt
bytes-drop (suc n) (byte ∷ bytes) small = bytes-drop n bytes small.1

-- the text of an address that stands for an IPv4 one
mapped_spells : (last : List ℕ) → AreBytes last → length last ≡ 4 → Spells (codes "::ffff:" ++ dotted last) (pairs (mapped_prefix ++ last))
mapped_spells last small four =
    let reads = dotted_reads last small four in
    let same = reads.2 in
    let numbers_small : AreBytes (numbers (dotted last)) = rw same at small in
    let hexadecimal : IsHexGroup (codes "ffff") = ((omega arith, (omega arith, (omega arith, (omega arith, (omega arith, tt))))), omega arith) in
    inr (record {
      prefix = [];
      back = codes "ffff" ∷ dotted last ∷ [];
      high = [];
      low = 65535 ∷ pairs last;
      zeros = 5;
      spelled = refl;
      spell_front = refl;
      spell_back = (hexadecimal, (pairs last, refl, inr (refl, reads.0, numbers_small, ap pairs same)));
      some_zeros = omega arith;
      all = refl;
    })

mapped_begins : (key : List ℕ) → is_mapped key ≡ true → key ≡ mapped_prefix ++ drop 12 key
mapped_begins key test = (starts_is Decides-eqb key mapped_prefix true (sym test)).0 refl

spells_by_kind : (key : List ℕ) (mapped : Bool) → is_mapped key ≡ mapped → AreBytes key → length key ≡ 16 →
    Spells (if mapped then codes "::ffff:" ++ dotted (drop 12 key) else shortened (pairs key)) (pairs key)
spells_by_kind key true test small long =
    let begins = mapped_begins key test in
    let spells = mapped_spells (drop 12 key) (bytes-drop 12 key small) (omega (arith, long, length-drop 12 key)) in
    let P : List ℕ → Type 0 = λ bytes. Spells (codes "::ffff:" ++ dotted (drop 12 key)) (pairs bytes) in
    subst P (sym begins) spells
spells_by_kind key false test small long = shortened_spells (pairs key) (pairs_small key small)

-- a printed address reads back
pub ipv6_reads : (key : List ℕ) → AreBytes key → length key ≡ 16 → IsIpv6 (ipv6 key) key
ipv6_reads key small long = record {
  groups = pairs key;
  eight = length-pairs 8 key long;
  spelled = spells_by_kind key (is_mapped key) refl small long;
  bytes = bytes_of_pairs 8 key small long;
}
