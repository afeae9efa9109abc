-- The printed form of an IPv6 address keeps the rules of RFC 5952, and is the only text that does.
use Rattle.std.proofs.Common.{◌≡◌, ℕ, suc, zero, ◌+◌, ◌/◌, ◌%◌, ◌<◌, ◌≤◌, ◌==◌, List, [], ◌∷◌, ◌++◌, length, length-append, length-take, codes, take, drop, map, replicate, arith, refl, sym, ◌∙◌, ap, Bool, true, false, ◌⊎◌, inl, inr}
use Rattle.std.specs.Prelude.{nat_lt, if◌then◌else◌, ◌≢◌}
use Rattle.std.proofs.lemmas.Bool.Decides.{nat_tests}
use Rattle.std.proofs.lemmas.List.{drop-drop, length-replicate}
use Rattle.std.proofs.lemmas.List.Sums.{fails_before_first, prefix_len-drop_all}
use Rattle.std.proofs.Math.Seq.{drop-append_seam, take-append_seam}
use Rattle.std.specs.Char.{digit_char, digit_value}
use Rattle.std.specs.Fmt.{digits}
use Rattle.std.specs.List.{AllByRecursion, join_with_byte, prefix_len}
use Rattle.std.specs.Str.Parse.{AllDigits, digits_value}
use Rattle.stick_key.specs.Dotted.{dotted}
use Rattle.stick_key.specs.Ipv6Canonical.{IsCanonical, IsCanonicalFull, IsCanonicalShortened, IsPlain, PrintedIsCanonical}
use Rattle.stick_key.specs.Ipv6Printed.{first_longest, is_mapped, joined, longest, places, shortened, zeros_from}
use Rattle.stick_key.specs.Ipv6Text.{IsHexGroup, Spell, pairs}
use Rattle.stick_key.proofs.Ipv6Digits.{one_digit, two_digits, three_digits, four_digits}
use Rattle.stick_key.proofs.Ipv6Reread.{AreGroups, split, spell_hex, pairs_small, length-pairs, groups-take, groups-drop, run_cut, longest_reached, fold_max-reached}
use Rattle.stick_key.proofs.Ipv6Runs.{IsLongestRun, first_longest_is, longest_is, le-fold_max, place_at, zeros_at}

-- a digit in lower case, and the byte that writes it
lower_digit : (c : ℕ) → digit_value c < 16 → (c < 65) ⊎ (97 ≤ c) → digit_char (digit_value c) ≡ c
lower_digit c small lower = elim lower [ inl decimal ↦ grind (arith, nat_tests) | inr letter ↦ grind (arith, nat_tests) ]

not_zero : (c : ℕ) → digit_value c < 16 → (c < 65) ⊎ (97 ≤ c) → c ≢ 48 → 0 < digit_value c
not_zero c small lower other = elim lower [ inl decimal ↦ grind (arith, nat_tests) | inr letter ↦ grind (arith, nat_tests) ]

-- a group that keeps the rules is what its number is printed as
one_plain : (a v : ℕ) → AllDigits 16 (a ∷ []) → IsPlain (a ∷ []) → v ≡ digits_value 16 (a ∷ []) → a ∷ [] ≡ digits 16 false v
one_plain a v small plain value =
    let first : v % 256 % 16 ≡ digit_value a = omega (arith, value, small.0) in
    let same = lower_digit a small.0 plain.lower_case.0 in
    ap (λ c. c ∷ []) (sym same ∙ ap digit_char (sym first)) ∙ sym (one_digit v (omega (arith, value, small.0)))

two_plain : (a b v : ℕ) → AllDigits 16 (a ∷ b ∷ []) → IsPlain (a ∷ b ∷ []) → v ≡ digits_value 16 (a ∷ b ∷ []) → a ∷ b ∷ [] ≡ digits 16 false v
two_plain a b v small plain value =
    let some = not_zero a small.0 plain.lower_case.0 (plain.no_leading_zero (omega arith)) in
    let first : v % 256 / 16 ≡ digit_value a = omega (arith, value, small.0, small.1.0) in
    let second : v % 256 % 16 ≡ digit_value b = omega (arith, value, small.0, small.1.0) in
    cc (
      lower_digit a small.0 plain.lower_case.0,
      lower_digit b small.1.0 plain.lower_case.1.0,
      two_digits v (omega (arith, value, some)) (omega (arith, value, small.0, small.1.0)),
    )

three_plain : (a b c v : ℕ) → AllDigits 16 (a ∷ b ∷ c ∷ []) → IsPlain (a ∷ b ∷ c ∷ []) → v ≡ digits_value 16 (a ∷ b ∷ c ∷ []) →
    a ∷ b ∷ c ∷ [] ≡ digits 16 false v
three_plain a b c v small plain value =
    let some = not_zero a small.0 plain.lower_case.0 (plain.no_leading_zero (omega arith)) in
    let first : v / 256 % 256 % 16 ≡ digit_value a = omega (arith, value, small.0, small.1.0, small.1.1.0) in
    let second : v % 256 / 16 ≡ digit_value b = omega (arith, value, small.0, small.1.0, small.1.1.0) in
    let third : v % 256 % 16 ≡ digit_value c = omega (arith, value, small.0, small.1.0, small.1.1.0) in
    cc (
      lower_digit a small.0 plain.lower_case.0,
      lower_digit b small.1.0 plain.lower_case.1.0,
      lower_digit c small.1.1.0 plain.lower_case.1.1.0,
      three_digits v (omega (arith, value, some)) (omega (arith, value, small.0, small.1.0, small.1.1.0)),
    )

four_plain : (a b c d v : ℕ) → AllDigits 16 (a ∷ b ∷ c ∷ d ∷ []) → IsPlain (a ∷ b ∷ c ∷ d ∷ []) → v ≡ digits_value 16 (a ∷ b ∷ c ∷ d ∷ []) →
    a ∷ b ∷ c ∷ d ∷ [] ≡ digits 16 false v
four_plain a b c d v small plain value =
    let some = not_zero a small.0 plain.lower_case.0 (plain.no_leading_zero (omega arith)) in
    let first : v / 256 % 256 / 16 ≡ digit_value a = omega (arith, value, small.0, small.1.0, small.1.1.0, small.1.1.1.0) in
    let second : v / 256 % 256 % 16 ≡ digit_value b = omega (arith, value, small.0, small.1.0, small.1.1.0, small.1.1.1.0) in
    let third : v % 256 / 16 ≡ digit_value c = omega (arith, value, small.0, small.1.0, small.1.1.0, small.1.1.1.0) in
    let fourth : v % 256 % 16 ≡ digit_value d = omega (arith, value, small.0, small.1.0, small.1.1.0, small.1.1.1.0) in
    cc (
      lower_digit a small.0 plain.lower_case.0,
      lower_digit b small.1.0 plain.lower_case.1.0,
      lower_digit c small.1.1.0 plain.lower_case.1.1.0,
      lower_digit d small.1.1.1.0 plain.lower_case.1.1.1.0,
      four_digits v (omega (arith, value, some)) (omega (arith, value, small.0, small.1.0, small.1.1.0, small.1.1.1.0)),
    )

plain_part : (part : List ℕ) → IsHexGroup part → IsPlain part → part ≡ digits 16 false (digits_value 16 part)
plain_part [] group plain = absurd (omega (arith, group.0.0))
plain_part (a ∷ []) group plain = one_plain a _ group.0.1 plain refl
plain_part (a ∷ b ∷ []) group plain = two_plain a b _ group.0.1 plain refl
plain_part (a ∷ b ∷ c ∷ []) group plain = three_plain a b c _ group.0.1 plain refl
plain_part (a ∷ b ∷ c ∷ d ∷ []) group plain = four_plain a b c d _ group.0.1 plain refl
plain_part (a ∷ b ∷ c ∷ d ∷ e ∷ part) group plain = absurd (omega (arith, group.1))

-- so such parts are the printed groups
plain_parts : (parts : List (List ℕ)) (groups : List ℕ) → Spell false parts groups → AllByRecursion IsPlain parts → parts ≡ map (digits 16 false) groups
plain_parts [] groups spell plain = ap (map (digits 16 false)) (sym spell)
plain_parts (part ∷ []) groups (inl spell) plain =
    ap (λ p. p ∷ []) (plain_part part spell.0 plain.0) ∙ ap (map (digits 16 false)) (sym spell.1)
plain_parts (part ∷ []) groups (inr spell) plain = cc (spell.0)
plain_parts (part ∷ next ∷ parts) groups spell plain =
    cc (plain_part part spell.0 plain.0, plain_parts (next ∷ parts) spell.1.0 spell.1.2 plain.1, ap (map (digits 16 false)) spell.1.1)

-- what is printed of a group keeps the rules
char_zero : (d : ℕ) → d < 16 → digit_char d ≡ 48 → d ≡ 0
char_zero d small same = elim (split d 10) [ inl decimal ↦ grind (arith, nat_tests) | inr letter ↦ grind (arith, nat_tests) ]

char_lower : (d : ℕ) → d < 16 → (digit_char d < 65) ⊎ (97 ≤ digit_char d)
char_lower d small = elim (split d 10) [
  | inl decimal ↦ (let low : digit_char d < 65 = grind (arith, nat_tests) in inl low)
  | inr letter ↦ (let high : 97 ≤ digit_char d = grind (arith, nat_tests) in inr high)
]

plain_digits : (n : ℕ) → n < 65536 → IsPlain (digits 16 false n)
plain_digits n small = elim (split n 16) [
  | inl one ↦ rw (one_digit n one) (record {
    no_leading_zero = λ long. absurd (omega (arith, long));
    lower_case = (char_lower (n % 256 % 16) (omega arith), tt);
  })
  | inr one ↦ elim (split n 256) [
    | inl two ↦ rw (two_digits n one two) (record {
      no_leading_zero = λ long zero_first. absurd (omega (arith, one, two, char_zero (n % 256 / 16) (omega arith) zero_first));
      lower_case = (char_lower (n % 256 / 16) (omega arith), (char_lower (n % 256 % 16) (omega arith), tt));
    })
    | inr two ↦ elim (split n 4096) [
      | inl three ↦ rw (three_digits n two three) (record {
        no_leading_zero = λ long zero_first. absurd (omega (arith, two, three, char_zero (n / 256 % 256 % 16) (omega arith) zero_first));
        lower_case = (char_lower (n / 256 % 256 % 16) (omega arith), (char_lower (n % 256 / 16) (omega arith), (char_lower (n % 256 % 16) (omega arith), tt)));
      })
      | inr three ↦ rw (four_digits n three small) (record {
        no_leading_zero = λ long zero_first. absurd (omega (arith, three, small, char_zero (n / 256 % 256 / 16) (omega arith) zero_first));
        lower_case = (
          char_lower (n / 256 % 256 / 16) (omega arith),
          (
            char_lower (n / 256 % 256 % 16) (omega arith),
            (char_lower (n % 256 / 16) (omega arith), (char_lower (n % 256 % 16) (omega arith), tt)),
          ),
        );
      })
    ]
  ]
]

plain_printed : (groups : List ℕ) → AreGroups groups → AllByRecursion IsPlain (map (digits 16 false) groups)
plain_printed [] small = tt
plain_printed (group ∷ groups) small = (plain_digits group small.0, plain_printed groups small.1)

-- no run is longer than the longest, and those before the first of that length are shorter
zeros-le-longest : (groups : List ℕ) (place : ℕ) → length groups ≡ 8 → zeros_from groups place ≤ longest groups
zeros-le-longest groups place eight = elim (split place 8) [
  | inl within ↦ omega (arith, zeros_at groups place within, le-fold_max (map (zeros_from groups) places) 0 place within)
  | inr past ↦ omega (arith, prefix_len-drop_all (λ group. group == 0) groups place (omega (arith, eight, past)))
]

below : (a b : ℕ) → a ≤ b → (a == b) ≡ false → a < b
below a b most other = grind (arith, nat_tests)

zeros-lt-longest : (groups : List ℕ) (place : ℕ) → length groups ≡ 8 → first_longest groups < 8 → place < first_longest groups → zeros_from groups place < longest groups
zeros-lt-longest groups place eight inside before =
    let within : place < 8 = omega (arith, inside, before) in
    below (zeros_from groups place) (longest groups) (zeros-le-longest groups place eight)
    (rw (place_at place within) at (fails_before_first (λ start. zeros_from groups start == longest groups) places place 0 before))

-- a run of zeros left out keeps the rules
meets_by_run : (groups : List ℕ) (start count : ℕ) → AreGroups groups → ((place : ℕ) → zeros_from groups place ≤ count) →
    (2 ≤ count → zeros_from groups start ≡ count) → (2 ≤ count → (place : ℕ) → place < start → zeros_from groups place < count) →
    IsCanonical (if nat_lt count 2 then joined groups else joined (take start groups) ++ (58 ∷ 58 ∷ joined (drop (start + count) groups))) groups
meets_by_run groups start count small most run first = elim (split count 2) [
  | inl short ↦ let test : nat_lt count 2 ≡ true = grind (arith, nat_tests) in
      rw test (inl (record {
        parts = map (digits 16 false) groups;
        spelled = refl;
        spell = spell_hex false groups small;
        plain = plain_printed groups small;
        no_run = λ place. omega (arith, short, most place);
      }))
  | inr long ↦ let test : nat_lt count 2 ≡ false = grind (arith, nat_tests) in
      let short = run_cut groups start count small (run long) in
      rw test (inr (record {
        prefix = map (digits 16 false) (take start groups);
        back = map (digits 16 false) (drop (start + count) groups);
        high = take start groups;
        low = drop (start + count) groups;
        zeros = count;
        spelled = refl;
        spell_front = spell_hex false (take start groups) (groups-take start groups small);
        spell_back = spell_hex false (drop (start + count) groups) (groups-drop (start + count) groups small);
        plain_prefix = plain_printed (take start groups) (groups-take start groups small);
        plain_back = plain_printed (drop (start + count) groups) (groups-drop (start + count) groups small);
        all = short;
        several = long;
        longest = most;
        first = λ place before. first long place (omega (arith, before, length-take start groups));
      }))
]

meets : (groups : List ℕ) → length groups ≡ 8 → AreGroups groups → IsCanonical (shortened groups) groups
meets groups eight small =
    meets_by_run groups (first_longest groups) (longest groups) small (λ place. zeros-le-longest groups place eight)
    (λ long. (longest_reached groups long).1)
    (λ long place before. zeros-lt-longest groups place eight (longest_reached groups long).0 before)

past_zeros : (n : ℕ) (low : List ℕ) → drop n (replicate n 0 ++ low) ≡ low
past_zeros n low = let long : length (replicate {A = ℕ} n 0) ≡ n = length-replicate n 0 in
    ap (λ k. drop k (replicate n 0 ++ low)) (sym long) ∙ drop-append_seam (replicate n 0) low

-- a text that keeps the rules leaves out the run that the printed form leaves out
run_at_least : (n : ℕ) (low : List ℕ) → n ≤ prefix_len (λ group. group == 0) (replicate n 0 ++ low)
run_at_least zero low = omega arith
run_at_least (suc n) low = omega (arith, run_at_least n low)

full_longest : (text groups : List ℕ) → IsCanonicalFull text groups → longest groups < 2
full_longest text groups full = elim (fold_max-reached (map (zeros_from groups) places) 0) [
  | inl none ↦ omega (arith, none)
  | inr some ↦ omega (arith, zeros_at groups some.0 some.1, some.2, full.no_run some.0)
]

by_full : (groups : List ℕ) (count : ℕ) (other : List ℕ) → count < 2 → (if nat_lt count 2 then joined groups else other) ≡ joined groups
by_full groups count other short = let test : nat_lt count 2 ≡ true = grind (arith, nat_tests) in rw test refl

by_run : (groups high low : List ℕ) (start count : ℕ) → start ≡ length high → groups ≡ high ++ (replicate count 0 ++ low) → 2 ≤ count →
    (if nat_lt count 2 then joined groups else joined (take start groups) ++ (58 ∷ 58 ∷ joined (drop (start + count) groups))) ≡ joined high ++ (58 ∷ 58 ∷ joined low)
by_run groups high low start count at all long =
    let test : nat_lt count 2 ≡ false = grind (arith, nat_tests) in
    let prefix : take (length high) (high ++ (replicate count 0 ++ low)) ≡ high = take-append_seam high (replicate count 0 ++ low) in
    let middle : drop (length high) (high ++ (replicate count 0 ++ low)) ≡ replicate count 0 ++ low = drop-append_seam high (replicate count 0 ++ low) in
    let back : drop (length high + count) (high ++ (replicate count 0 ++ low)) ≡ low =
    sym (drop-drop count (length high) (high ++ (replicate count 0 ++ low))) ∙ ap (drop count) middle ∙ past_zeros count low in
    rw (test, at, all, prefix, back) refl

is_longest : (text groups : List ℕ) → length groups ≡ 8 → (short : IsCanonicalShortened text groups) → IsLongestRun groups (length short.high) short.zeros
is_longest text groups eight short = record {
  reached = omega (
    arith,
    short.longest (length short.high),
    run_at_least short.zeros short.low,
    ap (λ all. zeros_from all (length short.high)) short.all ∙ ap (prefix_len (λ group. group == 0)) (drop-append_seam short.high (replicate short.zeros 0 ++ short.low)),
  );
  most = λ k inside. short.longest k;
  first = λ k before. short.first k before;
  inside = omega (arith, eight, ap length short.all, length-append short.high (replicate short.zeros 0 ++ short.low));
}

only : (text groups : List ℕ) → length groups ≡ 8 → IsCanonical text groups → text ≡ shortened groups
only text groups eight (inl full) =
    full.spelled ∙ ap (join_with_byte 58) (plain_parts full.parts groups full.spell full.plain)
    ∙ sym (by_full groups (longest groups) (joined (take (first_longest groups) groups) ++ (58 ∷ 58 ∷ joined (drop (first_longest groups + longest groups) groups))) (full_longest text groups full))
only text groups eight (inr short) =
    let run = is_longest text groups eight short in
    let count : longest groups ≡ short.zeros = longest_is groups (length short.high) short.zeros eight run in
    let start : first_longest groups ≡ length short.high = first_longest_is groups (length short.high) short.zeros eight run in
    let all : groups ≡ short.high ++ (replicate (longest groups) 0 ++ short.low) = short.all ∙ ap (λ n. short.high ++ (replicate n 0 ++ short.low)) (sym count) in
    let prefix = plain_parts short.prefix short.high short.spell_front short.plain_prefix in
    let back = plain_parts short.back short.low short.spell_back short.plain_back in
    let text_is : text ≡ joined short.high ++ (58 ∷ 58 ∷ joined short.low) =
    short.spelled ∙ ap (λ parts. join_with_byte 58 parts ++ (58 ∷ 58 ∷ join_with_byte 58 short.back)) prefix ∙ ap (λ parts. joined short.high ++ (58 ∷ 58 ∷ join_with_byte 58 parts)) back in
    text_is ∙ sym (by_run groups short.high short.low (first_longest groups) (longest groups) start all (omega (arith, count, short.several)))

canonical_by_kind : (address : List ℕ) (mapped : Bool) → mapped ≡ false → length (pairs address) ≡ 8 → AreGroups (pairs address) →
    IsCanonical (if mapped then codes "::ffff:" ++ dotted (drop 12 address) else shortened (pairs address)) (pairs address)
    × ((text : List ℕ) → IsCanonical text (pairs address) → text ≡ (if mapped then codes "::ffff:" ++ dotted (drop 12 address) else shortened (pairs address)))
canonical_by_kind address true other eight small = cc
canonical_by_kind address false other eight small = (meets (pairs address) eight small, λ text canonical. only text (pairs address) eight canonical)

pub printed_is_canonical : PrintedIsCanonical
printed_is_canonical address bytes long other =
    canonical_by_kind address (is_mapped address) other (length-pairs 8 address long) (pairs_small address bytes)
