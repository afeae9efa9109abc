-- The address that an IPv6 text gives is the one that it spells.
use Rattle.std.proofs.Common.{◌≡◌, ℕ, ◌+◌, ◌-◌, ◌<◌, ◌≤◌, ◌==◌, ◌&&◌, List, [], ◌∷◌, ◌++◌, length, replicate, flat_map, arith, refl, sym, ◌∙◌, ap, Bool, true, false, inl, inr}
use Rattle.std.proofs.lemmas.Bool.{and_right, cases_Bool, false_from_ne_true, lt-ltb, ltb-true, eqb-true, eq-eqb}
use Rattle.std.proofs.lemmas.Bool.Decides.{Decides-and, nat_tests}
use Rattle.std.proofs.lemmas.Option.{cond_some, none-some, option_and_then_some, same_Some}
use Rattle.std.specs.Bool.{Decides}
use Rattle.std.specs.List.{slice_split, starts_with}
use Rattle.std.specs.Option.{option_map, option_and_then}
use Rattle.std.specs.Prelude.{◌≢◌, nat_eq, nat_le, nat_lt, codes, Option, Some, None, if◌then◌else◌}
use Rattle.std.specs.Str.Parse.{digits_value}
use Rattle.stick_key.specs.AddressOf.{dotted_of, eight_of, groups_of, ipv6_of, is_hex_group, side_of, sides_of}
use Rattle.stick_key.specs.Dotted.{IsDotted, numbers}
use Rattle.stick_key.specs.Ipv6Reader.{SpellSide}
use Rattle.stick_key.specs.Ipv6Text.{IsHexGroup, IsIpv6, Spell, Spells, group_bytes, pairs}
use Rattle.stick_key.specs.Numeral.{is_numeral}
use Rattle.stick_key.proofs.DottedLemmas.{decides_numeral, decides_le, dotted_of-is, dotted_of-some}
use Rattle.stick_key.proofs.Ipv6Gaps.{NoGap, no_gap-is, full_sound}
use Rattle.stick_key.proofs.Ipv6Sides.{full_only, hex_not_dotted, length-sides, sides_complete, sides_sound}

-- what a mapped value was
mapped_some : {A B : Type 0} (f : A → B) (found : Option A) (y : B) → option_map f found ≡ Some y → (x : A) × (found ≡ Some x) × (f x ≡ y)
mapped_some f None y gives = absurd (none-some y gives)
mapped_some f (Some x) y gives = (x, refl, same_Some (f x) y gives)

mapped_none : {A B : Type 0} (f : A → B) (found : Option A) → option_map f found ≡ None → found ≡ None
mapped_none f None gives = refl
mapped_none f (Some x) gives = absurd (none-some (f x) (sym gives))

decides_hex_group : (part : List ℕ) → Decides (is_hex_group part) (IsHexGroup part)
decides_hex_group part = Decides-and (is_numeral 16 part) (nat_le (length part) 4) (decides_numeral 16 part) (decides_le (length part) 4)

more_of : (test : Bool) (f : List ℕ → List ℕ) (found : Option (List ℕ)) (y : List ℕ) → (if test then option_map f found else None) ≡ Some y →
    (test ≡ true) × ((x : List ℕ) × (found ≡ Some x) × (f x ≡ y))
more_of true f found y gives = (refl, mapped_some f found y gives)
more_of false f found y gives = absurd (none-some y gives)

-- the groups of a last part that isn't hexadecimal
last_of-is : (dotted_end : Bool) (part all : List ℕ) → (if dotted_end then option_map pairs (dotted_of part) else None) ≡ Some all → Spell dotted_end (part ∷ []) all
last_of-is true part all gives =
    let found = mapped_some pairs (dotted_of part) all gives in
    let known = dotted_of-is part found.0 found.1 in
    inr (refl, known.0, rw known.2 at known.1, sym found.2 ∙ ap pairs known.2)
last_of-is false part all gives = absurd (none-some all gives)

-- the groups that parts give are those that they spell
groups_of-is : (dotted_end : Bool) (parts : List (List ℕ)) (all : List ℕ) → groups_of dotted_end parts ≡ Some all → Spell dotted_end parts all
groups_of-is dotted_end [] all gives = sym (same_Some [] all gives)
groups_of-is dotted_end (part ∷ []) all gives = elim (cases_Bool (is_hex_group part)) [
  | inl hex ↦ inl ((decides_hex_group part).0 hex, sym (same_Some (digits_value 16 part ∷ []) all (rw hex at gives)))
  | inr other ↦ last_of-is dotted_end part all (rw other at gives)
]
groups_of-is dotted_end (part ∷ next ∷ parts) all gives =
    let here = more_of (is_hex_group part) (λ rest. digits_value 16 part ∷ rest) (groups_of dotted_end (next ∷ parts)) all gives in
    ((decides_hex_group part).0 here.0, (here.1.0, sym here.1.2, groups_of-is dotted_end (next ∷ parts) here.1.0 here.1.1))

not_hex : (part : List ℕ) → IsDotted part → is_hex_group part ≡ false
not_hex part dotted = false_from_ne_true (is_hex_group part) (λ test. hex_not_dotted part ((decides_hex_group part).0 test).0.1 dotted)

dotted_last : (part all : List ℕ) → dotted_of part ≡ Some (numbers part) → all ≡ pairs (numbers part) → option_map pairs (dotted_of part) ≡ Some all
dotted_last part all gives same = rw (gives, same) refl

-- and the other way round
groups_of-some : (dotted_end : Bool) (parts : List (List ℕ)) (all : List ℕ) → Spell dotted_end parts all → groups_of dotted_end parts ≡ Some all
groups_of-some dotted_end [] all spell = ap Some (sym spell)
groups_of-some dotted_end (part ∷ []) all (inl spell) = rw ((decides_hex_group part).1 spell.0) (ap Some (sym spell.1))
groups_of-some true (part ∷ []) all (inr spell) = rw (not_hex part spell.1) (dotted_last part all (dotted_of-some part spell.1 spell.2) spell.3)
groups_of-some false (part ∷ []) all (inr spell) = cc (spell.0)
groups_of-some dotted_end (part ∷ next ∷ parts) all spell =
    rw ((decides_hex_group part).1 spell.0, groups_of-some dotted_end (next ∷ parts) spell.1.0 spell.1.2) (ap Some (sym spell.1.1))

-- the same of a side
side_of-is : (dotted_end : Bool) (text all : List ℕ) → side_of dotted_end text ≡ Some all → SpellSide dotted_end text all
side_of-is dotted_end [] all gives = sym (same_Some [] all gives)
side_of-is dotted_end (byte ∷ text) all gives = groups_of-is dotted_end (slice_split (λ b. b == 58) (byte ∷ text)) all gives

side_of-some : (dotted_end : Bool) (text all : List ℕ) → SpellSide dotted_end text all → side_of dotted_end text ≡ Some all
side_of-some dotted_end [] all spell = ap Some (sym spell)
side_of-some dotted_end (byte ∷ text) all spell = groups_of-some dotted_end (slice_split (λ b. b == 58) (byte ∷ text)) all spell

-- what stands round the first gap
gap_here : (c d : ℕ) → ((58 == c) && ((58 == d) && true)) ≡ true → (c ≡ 58) × (d ≡ 58)
gap_here c d test = grind (arith, nat_tests)

no_gap_here : (c d : ℕ) → ((58 == c) && ((58 == d) && true)) ≡ false → c ≡ 58 → d ≡ 58 → ⊥
no_gap_here c d test first second = grind (arith, nat_tests)

no_gap_before : (c d : ℕ) (rest prefix after : List ℕ) → (c ≡ 58 → d ≡ 58 → ⊥) → d ∷ rest ≡ prefix ++ 58 ∷ 58 ∷ after → NoGap (prefix ++ 58 ∷ []) → NoGap (c ∷ (prefix ++ 58 ∷ []))
unfolding NoGap
no_gap_before c d rest [] after here same none = (λ first second. here first (cc), tt)
no_gap_before c d rest (x ∷ prefix) after here same none = (λ first second. here first (cc), none)

-- a text that is cut holds its gap between the sides, and none before
record IsCut (text : List ℕ) (sides : List ℕ × List ℕ) : Type 0 where
  whole : text ≡ sides.0 ++ 58 ∷ 58 ∷ sides.1
  first : NoGap (sides.0 ++ 58 ∷ [])

longer : (c d : ℕ) (rest : List ℕ) (sides : List ℕ × List ℕ) → (c ≡ 58 → d ≡ 58 → ⊥) → IsCut (d ∷ rest) sides → IsCut (c ∷ d ∷ rest) (c ∷ sides.0, sides.1)
longer c d rest sides here cut = record { whole = ap (λ t. c ∷ t) cut.whole; first = no_gap_before c d rest sides.0 sides.1 here cut.whole cut.first }

one_byte : (c : ℕ) → starts_with nat_eq (c ∷ []) (codes "::") ≡ false
one_byte c = and_right (58 == c) false refl

cut_of : (test : Bool) (c d : ℕ) (rest : List ℕ) (found : Option (List ℕ × List ℕ)) (sides : List ℕ × List ℕ) → (test ≡ true → (c ≡ 58) × (d ≡ 58)) → (test ≡ false → c ≡ 58 → d ≡ 58 → ⊥) →
    ((more : List ℕ × List ℕ) → found ≡ Some more → IsCut (d ∷ rest) more) →
    (if test then Some ([], rest) else option_map (λ more. (c ∷ more.0, more.1)) found) ≡ Some sides → IsCut (c ∷ d ∷ rest) sides
unfolding NoGap
cut_of true c d rest found sides here none more gives =
    let colons = here refl in
    rw (← same_Some ([], rest) sides gives) (record { whole = cc (colons.0, colons.1); first = tt })
cut_of false c d rest found sides here none more gives =
    let behind = mapped_some (λ more. (c ∷ more.0, more.1)) found sides gives in
    rw (← behind.2) (longer c d rest behind.0 (none refl) (more behind.0 behind.1))

sides_of-is : (text : List ℕ) (sides : List ℕ × List ℕ) → sides_of text ≡ Some sides → IsCut text sides
sides_of-is [] sides gives = absurd (none-some sides gives)
sides_of-is (c ∷ []) sides gives = absurd (none-some sides (rw (one_byte c) at gives))
sides_of-is (c ∷ d ∷ rest) sides gives =
    cut_of (starts_with nat_eq (c ∷ d ∷ rest) (codes "::")) c d rest (sides_of (d ∷ rest)) sides (gap_here c d) (no_gap_here c d) (λ more found. sides_of-is (d ∷ rest) more found) gives

-- a text that isn't cut has no gap
no_gap_of : (test : Bool) (c d : ℕ) (rest : List ℕ) (found : Option (List ℕ × List ℕ)) → (test ≡ false → c ≡ 58 → d ≡ 58 → ⊥) → (found ≡ None → NoGap (d ∷ rest)) →
    if◌then◌else◌ {A = Option (List ℕ × List ℕ)} test (Some ([], rest)) (option_map (λ more. (c ∷ more.0, more.1)) found) ≡ None → NoGap (c ∷ d ∷ rest)
unfolding NoGap
no_gap_of true c d rest found here none gives = let sides : List ℕ × List ℕ = ([], rest) in absurd (none-some sides (sym gives))
no_gap_of false c d rest found here none gives = (here refl, none (mapped_none (λ more. (c ∷ more.0, more.1)) found gives))

sides_of-none : (text : List ℕ) → sides_of text ≡ None → NoGap text
unfolding NoGap
sides_of-none [] gives = tt
sides_of-none (c ∷ []) gives = tt
sides_of-none (c ∷ d ∷ rest) gives =
    no_gap_of (starts_with nat_eq (c ∷ d ∷ rest) (codes "::")) c d rest (sides_of (d ∷ rest)) (no_gap_here c d) (λ none. sides_of-none (d ∷ rest) none) gives

-- the groups that a text gives are eight, and those that it spells
full_of : (text all : List ℕ) → length all ≡ 8 → SpellSide true text all → Spells text all
full_of [] all eight spell = absurd (omega (arith, eight, ap length spell))
full_of (byte ∷ text) all eight spell = inl (full_sound (byte ∷ text) all spell)

zeros_of : (high low all : List ℕ) → (if nat_lt (length high + length low) 8 then Some (high ++ (replicate (8 - (length high + length low)) 0 ++ low)) else None) ≡ Some all →
    (length high + length low < 8) × (all ≡ high ++ (replicate (8 - (length high + length low)) 0 ++ low))
zeros_of high low all gives =
    let known = cond_some (nat_lt (length high + length low) 8) (high ++ (replicate (8 - (length high + length low)) 0 ++ low)) all gives in
    (ltb-true (length high + length low) 8 known.0, sym known.1)

eight_long : (high low all : List ℕ) → length high + length low < 8 → all ≡ high ++ (replicate (8 - (length high + length low)) 0 ++ low) → length all ≡ 8
eight_long high low all room same = omega (arith, room, ap length same, length-sides high low (8 - (length high + length low)))

shortened_of : (text high low all : List ℕ) (sides : List ℕ × List ℕ) → IsCut text sides → side_of false sides.0 ≡ Some high → side_of true sides.1 ≡ Some low →
    (if nat_lt (length high + length low) 8 then Some (high ++ (replicate (8 - (length high + length low)) 0 ++ low)) else None) ≡ Some all → (length all ≡ 8) × Spells text all
shortened_of text high low all sides cut prefix back gives =
    let known = zeros_of high low all gives in (
      eight_long high low all known.0 known.1,
      sides_sound text sides.0 sides.1 all cut.whole (record {
        high = high;
        low = low;
        zeros = 8 - (length high + length low);
        spell_high = side_of-is false sides.0 high prefix;
        spell_low = side_of-is true sides.1 low back;
        some_zeros = omega (arith, known.0);
        all = known.1;
      }),
    )

eight_of-is : (text : List ℕ) (sides : Option (List ℕ × List ℕ)) (all : List ℕ) → sides_of text ≡ sides → eight_of text sides ≡ Some all → (length all ≡ 8) × Spells text all
eight_of-is text None all cut gives =
    option_and_then_some (λ found. if length found == 8 then Some found else None) (side_of true text) all gives (λ found side test.
    let known = cond_some (length found == 8) found all test in
    let same = known.1 in
    let eight : length all ≡ 8 = sym (ap length same) ∙ eqb-true (length found) 8 known.0 in
    (eight, full_of text all eight (rw same at (side_of-is true text found side))))
eight_of-is text (Some sides) all cut gives =
    option_and_then_some (λ high. option_and_then (λ low. if nat_lt (length high + length low) 8 then Some (high ++ (replicate (8 - (length high + length low)) 0 ++ low)) else None) (side_of true sides.1))
    (side_of false sides.0) all gives (λ high prefix rest.
    option_and_then_some (λ low. if nat_lt (length high + length low) 8 then Some (high ++ (replicate (8 - (length high + length low)) 0 ++ low)) else None) (side_of true sides.1) all rest (λ low back test.
    shortened_of text high low all sides (sides_of-is text sides cut) prefix back test))

-- and the other way round
side_full : (text all : List ℕ) → Spell true (slice_split (λ b. b == 58) text) all → SpellSide true text all
side_full [] all (inl spell) = absurd (omega (arith, spell.0.0.0))
side_full [] all (inr spell) = absurd (omega (arith, spell.1.four))
side_full (byte ∷ text) all spell = spell

zeros_fill : (high low all : List ℕ) (zeros : ℕ) → length all ≡ 8 → 1 ≤ zeros → all ≡ high ++ (replicate zeros 0 ++ low) →
    (if nat_lt (length high + length low) 8 then Some (high ++ (replicate (8 - (length high + length low)) 0 ++ low)) else None) ≡ Some all
zeros_fill high low all zeros eight some same =
    let long : length high + (zeros + length low) ≡ 8 = sym (length-sides high low zeros) ∙ sym (ap length same) ∙ eight in
    let room : 8 - (length high + length low) ≡ zeros = omega (arith, long) in
    rw (lt-ltb (length high + length low) 8 (omega (arith, long, some)), room) (ap Some (sym same))

eight_of-some : (text : List ℕ) (sides : Option (List ℕ × List ℕ)) (all : List ℕ) → sides_of text ≡ sides → length all ≡ 8 → Spells text all → eight_of text sides ≡ Some all
eight_of-some text None all cut eight spells =
    let spell = full_only text all (no_gap-is text (sides_of-none text cut)) (omega (arith, eight)) spells in
    rw (side_of-some true text all (side_full text all spell)) (rw (eq-eqb (length all) 8 eight) refl)
eight_of-some text (Some sides) all cut eight spells =
    let known = sides_of-is text sides cut in
    let short = sides_complete text sides.0 sides.1 all known.whole (no_gap-is (sides.0 ++ 58 ∷ []) known.first) spells in
    rw (side_of-some false sides.0 short.high short.spell_high) (rw (side_of-some true sides.1 short.low short.spell_low)
    (zeros_fill short.high short.low all short.zeros eight short.some_zeros short.all))

-- the address that a text gives is the one that it spells
pub ipv6_of-is : (text address : List ℕ) → ipv6_of text ≡ Some address → IsIpv6 text address
unfolding ipv6_of
ipv6_of-is text address gives =
    let found = mapped_some (flat_map group_bytes) (eight_of text (sides_of text)) address gives in
    let known = eight_of-is text (sides_of text) found.0 refl found.1 in
    record { groups = found.0; eight = known.0; spelled = known.1; bytes = sym found.2 }

pub ipv6_of-groups : (text groups : List ℕ) → length groups ≡ 8 → Spells text groups → ipv6_of text ≡ Some (flat_map group_bytes groups)
unfolding ipv6_of
ipv6_of-groups text groups eight spells = ap (option_map (flat_map group_bytes)) (eight_of-some text (sides_of text) groups refl eight spells)

pub ipv6_of-some : (text address : List ℕ) → IsIpv6 text address → ipv6_of text ≡ Some address
ipv6_of-some text address spells = ipv6_of-groups text spells.groups spells.eight spells.spelled ∙ ap Some (sym spells.bytes)

none_found : {A : Type 0} (found : Option A) → ((x : A) → found ≡ Some x → ⊥) → None ≡ found
none_found None other = refl
none_found (Some x) other = absurd (other x refl)

-- and there is none where it spells no eight groups
pub ipv6_of-none : (text : List ℕ) → ((groups : List ℕ) → Spells text groups → length groups ≢ 8) → None ≡ ipv6_of text
ipv6_of-none text other =
    none_found (ipv6_of text) (λ address gives. let spells = ipv6_of-is text address gives in other spells.groups spells.spelled spells.eight)
