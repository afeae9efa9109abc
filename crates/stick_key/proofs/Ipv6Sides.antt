-- What a text with a gap spells, and what one without.
use Rattle.std.proofs.Common.{◌≡◌, ℕ, ◌+◌, ◌-◌, ◌<◌, ◌≤◌, ◌==◌, List, [], ◌∷◌, ◌++◌, length, length-drop, take, drop, replicate, flat_map, arith, refl, sym, ◌∙◌, ap, Bool, true, false, append_assoc, append-nil, length-append, inl, inr}
use Rattle.std.specs.Prelude.{Option, Some, None, IfSome, IfNone}
use Rattle.std.proofs.lemmas.Bool.Decides.{nat_tests}
use Rattle.std.proofs.lemmas.List.{length-replicate, drop-replicate, take-replicate, drop_all}
use Rattle.std.proofs.Math.Seq.{take-append-add}
use Rattle.std.specs.Option.{SomeIff}
use Rattle.std.specs.List.{slice_split, join_with_byte, AllByRecursion}
use Rattle.std.specs.Str.Parse.{digits_value, AllDigits}
use Rattle.std.proofs.lemmas.List.Splits.{slice_split_none, join_with_byte-slice_split}
use Rattle.std.proofs.lemmas.List.Elements.{All-from_recursion}
use borrow.Rule.Slice.PartMut.{put_mid}
use Rattle.stick_key.specs.Dotted.{IsDotted}
use Rattle.stick_key.specs.Ipv6Reader.{HasNoGap, SpellSide, SpellSides}
use Rattle.stick_key.specs.Ipv6Text.{Spell, Spells, IsIpv6, group_bytes}
use Rattle.stick_key.proofs.Ipv6Gaps.{full_complete, shortened_complete, gap_unique, has_gap, full_no_gap}

-- a group in hexadecimal is no IPv4 text
hex_no_dot : (part : List ℕ) → AllDigits 16 part → AllByRecursion (λ byte. (byte == 46) ≡ false) part
hex_no_dot [] digits = tt
hex_no_dot (c ∷ part) digits = let small = digits.0 in (grind (arith, nat_tests), hex_no_dot part digits.1)

pub hex_not_dotted : (part : List ℕ) → AllDigits 16 part → IsDotted part → ⊥
hex_not_dotted part digits dotted =
    let one = slice_split_none (λ byte. byte == 46) part (All-from_recursion (λ byte. (byte == 46) ≡ false) part (hex_no_dot part digits)) in
    omega (arith, ap length one, dotted.four)

-- parts spell one list of groups
pub spell_unique : (dotted_end : Bool) (parts : List (List ℕ)) (a b : List ℕ) → Spell dotted_end parts a → Spell dotted_end parts b → a ≡ b
spell_unique dotted_end [] a b first second = first ∙ sym second
spell_unique dotted_end (part ∷ []) a b (inl first) (inl second) = first.1 ∙ sym second.1
spell_unique dotted_end (part ∷ []) a b (inl first) (inr second) = absurd (hex_not_dotted part first.0.0.1 second.1)
spell_unique dotted_end (part ∷ []) a b (inr first) (inl second) = absurd (hex_not_dotted part second.0.0.1 first.1)
spell_unique dotted_end (part ∷ []) a b (inr first) (inr second) = first.3 ∙ sym second.3
spell_unique dotted_end (part ∷ next ∷ parts) a b first second =
    first.1.1 ∙ ap (λ rest. digits_value 16 part ∷ rest) (spell_unique dotted_end (next ∷ parts) first.1.0 second.1.0 first.1.2 second.1.2) ∙ sym second.1.1

side_unique : (dotted_end : Bool) (text a b : List ℕ) → SpellSide dotted_end text a → SpellSide dotted_end text b → a ≡ b
side_unique dotted_end [] a b first second = first ∙ sym second
side_unique dotted_end (c ∷ text) a b first second = spell_unique dotted_end (slice_split (λ byte. byte == 58) (c ∷ text)) a b first second

-- the parts of a side
side_parts : (dotted_end : Bool) (text all : List ℕ) → SpellSide dotted_end text all → (parts : List (List ℕ)) × (text ≡ join_with_byte 58 parts) × Spell dotted_end parts all
side_parts dotted_end [] all spell = ([], refl, spell)
side_parts dotted_end (c ∷ text) all spell = (slice_split (λ byte. byte == 58) (c ∷ text), sym (join_with_byte-slice_split 58 (c ∷ text)), spell)

-- what the two sides spell is what the text spells
pub sides_sound : (text before after all : List ℕ) → text ≡ before ++ 58 ∷ 58 ∷ after → SpellSides before after all → Spells text all
sides_sound text before after all cut sides =
    let prefix = side_parts false before sides.high sides.spell_high in
    let back = side_parts true after sides.low sides.spell_low in
    let same : before ++ 58 ∷ 58 ∷ after ≡ join_with_byte 58 prefix.0 ++ (58 ∷ 58 ∷ join_with_byte 58 back.0) = cc (prefix.1, back.1) in
    inr (record {
      prefix = prefix.0;
      back = back.0;
      high = sides.high;
      low = sides.low;
      zeros = sides.zeros;
      spelled = cut ∙ same;
      spell_front = prefix.2;
      spell_back = back.2;
      some_zeros = sides.some_zeros;
      all = sides.all;
    })

pub sides_complete : (text before after all : List ℕ) → text ≡ before ++ 58 ∷ 58 ∷ after → HasNoGap (before ++ 58 ∷ []) → Spells text all → SpellSides before after all
sides_complete text before after all cut none (inl full) = absurd (has_gap before after (rw cut at (full_no_gap text all full)))
sides_complete text before after all cut none (inr short) =
    let known = shortened_complete text all short in
    let same = gap_unique before (join_with_byte 58 short.prefix) after (join_with_byte 58 short.back) none known.0 (sym cut ∙ short.spelled) in
    record {
      high = short.high;
      low = short.low;
      zeros = short.zeros;
      spell_high = rw same.0 known.1;
      spell_low = rw same.1 known.2;
      some_zeros = short.some_zeros;
      all = short.all;
    }

pub full_only : (text all : List ℕ) → HasNoGap text → 0 < length all → Spells text all → Spell true (slice_split (λ byte. byte == 58) text) all
full_only text all none some (inl full) = full_complete text all some full
full_only text all none some (inr short) = absurd (has_gap (join_with_byte 58 short.prefix) (join_with_byte 58 short.back) (rw short.spelled at none))

pub length-sides : (high low : List ℕ) (zeros : ℕ) → length (high ++ (replicate zeros 0 ++ low)) ≡ length high + (zeros + length low)
length-sides high low zeros = omega (arith, length-append high (replicate zeros 0 ++ low), length-append (replicate zeros 0) low, length-replicate {A = ℕ} zeros 0)

-- more than seven groups leave no room for the gap
pub sides_too_many : (before after high low all : List ℕ) → SpellSide false before high → SpellSide true after low → 7 < length high + length low →
    SpellSides before after all → length all ≡ 8 → ⊥
sides_too_many before after high low all spell_high spell_low many sides eight =
    omega (
      arith,
      many,
      eight,
      sides.some_zeros,
      ap length sides.all,
      length-sides sides.high sides.low sides.zeros,
      ap length (side_unique false before high sides.high spell_high sides.spell_high),
      ap length (side_unique true after low sides.low spell_low sides.spell_low),
    )

sides_unique : (before after a b : List ℕ) → SpellSides before after a → SpellSides before after b → length a ≡ 8 → length b ≡ 8 → a ≡ b
sides_unique before after a b first second eight_a eight_b =
    let same_high = side_unique false before first.high second.high first.spell_high second.spell_high in
    let same_low = side_unique true after first.low second.low first.spell_low second.spell_low in
    let same_zeros : first.zeros ≡ second.zeros = omega (
      arith,
      eight_a,
      eight_b,
      ap length first.all,
      ap length second.all,
      ap length same_high,
      ap length same_low,
      length-sides first.high first.low first.zeros,
      length-sides second.high second.low second.zeros,
    ) in
    let same : first.high ++ (replicate first.zeros 0 ++ first.low) ≡ second.high ++ (replicate second.zeros 0 ++ second.low) = cc in
    first.all ∙ same ∙ sym second.all

-- a text spells one list of eight groups
pub spells_unique : (text a b : List ℕ) → Spells text a → Spells text b → length a ≡ 8 → length b ≡ 8 → a ≡ b
spells_unique text a b (inl first) second eight_a eight_b =
    spell_unique true (slice_split (λ byte. byte == 58) text) a b (full_complete text a (omega arith) first)
    (full_only text b (full_no_gap text a first) (omega arith) second)
spells_unique text a b (inr first) second eight_a eight_b =
    let known = shortened_complete text a first in
    sides_unique (join_with_byte 58 first.prefix) (join_with_byte 58 first.back) a b
    (record { high = first.high; low = first.low; zeros = first.zeros; spell_high = known.1; spell_low = known.2; some_zeros = first.some_zeros; all = first.all })
    (sides_complete text (join_with_byte 58 first.prefix) (join_with_byte 58 first.back) b first.spelled known.0 second) eight_a eight_b

-- so a text is that of one address at most
pub ipv6_unique : (text a b : List ℕ) → IsIpv6 text a → IsIpv6 text b → a ≡ b
ipv6_unique text a b first second =
    first.bytes ∙ ap (flat_map group_bytes) (spells_unique text first.groups second.groups first.spelled second.spelled first.eight second.eight) ∙ sym second.bytes

-- what holds of what was found holds of more, and nothing is found where less is none
pub found_more : (found : Option (List ℕ)) (P Q : List ℕ → Type 0) → ((all : List ℕ) → P all → Q all) → IfSome found P → IfSome found Q
found_more None P Q more holds = tt
found_more (Some all) P Q more holds = more all holds

pub none_more : (found : Option (List ℕ)) (P Q : List ℕ → Type 0) → ((all : List ℕ) → length all ≡ 8 → Q all → P all) →
    IfNone found ((all : List ℕ) → P all → length all ≡ 8 → ⊥) → IfNone found ((all : List ℕ) → Q all → length all ≡ 8 → ⊥)
none_more None P Q more holds = λ all spell eight. holds all (more all eight spell) eight
none_more (Some all) P Q more holds = tt

-- eight zeros, with the high groups written over the first and the low ones over the last
pub filled_is : (high low h l : List ℕ) → h ≡ high → l ≡ low → length high + length low ≤ 8 →
    put_mid (8 - length low) (8 - (8 - length low)) (h ++ drop (length high) (replicate 8 0)) l ≡ high ++ (replicate (8 - (length high + length low)) 0 ++ low)
filled_is high low h l same_high same_low room =
    let between : ℕ = 8 - (length high + length low) in
    let cut : 8 - length low ≡ length high + between = omega arith in
    let zeros : List ℕ = replicate 8 0 in
    let left : drop (length high) zeros ≡ replicate (8 - length high) 0 = drop-replicate (length high) 8 0 in
    let prefix : take (8 - length low) (high ++ drop (length high) zeros) ≡ high ++ replicate between 0 =
    ap (λ n. take n (high ++ drop (length high) zeros)) cut ∙ take-append-add high (drop (length high) zeros) between
    ∙ ap (λ rest. high ++ take between rest) left ∙ ap (λ rest. high ++ rest) (take-replicate between (8 - length high) 0 (omega arith)) in
    let all : length (high ++ drop (length high) zeros) ≡ 8 = omega (arith, length-append high (drop (length high) zeros), length-drop (length high) zeros) in
    let behind : drop (8 - (8 - length low)) (drop (8 - length low) (high ++ drop (length high) zeros)) ≡ [] =
    drop_all (8 - (8 - length low)) (drop (8 - length low) (high ++ drop (length high) zeros)) (omega (arith, all, length-drop (8 - length low) (high ++ drop (length high) zeros))) in
    rw (same_high, same_low, prefix, behind) (simp (append-nil, append_assoc))

-- groups that aren't eight are all that the text spells
pub full_none : (parts : List (List ℕ)) (all : List ℕ) (found : Option (List ℕ)) → Spell true parts all → SomeIff found (length all ≡ 8) all →
    IfNone found ((other : List ℕ) → Spell true parts other → length other ≡ 8 → ⊥)
full_none parts all None spell same = λ other others eight. same (ap length (spell_unique true parts all other spell others) ∙ eight)
full_none parts all (Some x) spell same = tt
