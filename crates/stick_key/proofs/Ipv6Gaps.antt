-- Colons in a row.
use Rattle.std.proofs.Common.{◌≡◌, ℕ, suc, zero, ◌+◌, ◌<◌, ◌==◌, List, [], ◌∷◌, ◌++◌, length, get_or, arith, refl, sym, ◌∙◌, ap, Bool, true, false, append_assoc, length-append, inl, inr}
use Rattle.std.proofs.lemmas.Bool.Decides.{nat_tests}
use Rattle.std.proofs.Math.Seq.{get_or-append_seam}
use Rattle.std.proofs.lemmas.List.{get_or_append_left}
use Rattle.std.specs.List.{slice_split, join_with_byte, AllByRecursion}
use Rattle.std.specs.Str.Parse.{AllDigits}
use Rattle.std.proofs.lemmas.List.Splits.{slice_split_at, slice_split_none, join_with_byte-slice_split}
use Rattle.std.proofs.lemmas.List.Elements.{All-from_recursion}
use Rattle.stick_key.specs.Ipv6Text.{Spell, IsFull, IsShortened}
use Rattle.stick_key.specs.Ipv6Reader.{HasNoGap, SpellSide}
use Rattle.stick_key.specs.Dotted.{IsDotted, IsGroup, groups}

-- some bytes, none of them a colon
record IsPart (part : List ℕ) : Type 0 where
  some : 0 < length part
  plain : AllByRecursion (λ byte. (byte == 58) ≡ false) part

hex_plain : (part : List ℕ) → AllDigits 16 part → AllByRecursion (λ byte. (byte == 58) ≡ false) part
hex_plain [] digits = tt
hex_plain (c ∷ part) digits = let small = digits.0 in (grind (arith, nat_tests), hex_plain part digits.1)

plain_append : (xs ys : List ℕ) → AllByRecursion (λ byte. (byte == 58) ≡ false) xs → AllByRecursion (λ byte. (byte == 58) ≡ false) ys → AllByRecursion (λ byte. (byte == 58) ≡ false) (xs ++ ys)
plain_append [] ys prefix back = back
plain_append (x ∷ xs) ys prefix back = (prefix.0, plain_append xs ys prefix.1 back)

decimal_plain : (part : List ℕ) → AllDigits 10 part → AllByRecursion (λ byte. (byte == 58) ≡ false) part
decimal_plain [] digits = tt
decimal_plain (c ∷ part) digits = let small = digits.0 in (grind (arith, nat_tests), decimal_plain part digits.1)

join_plain : (parts : List (List ℕ)) → AllByRecursion IsGroup parts → AllByRecursion (λ byte. (byte == 58) ≡ false) (join_with_byte 46 parts)
join_plain [] all = tt
join_plain (part ∷ []) all = decimal_plain part all.0.digits.1
join_plain (part ∷ next ∷ parts) all = plain_append part (46 ∷ join_with_byte 46 (next ∷ parts)) (decimal_plain part all.0.digits.1) (refl, join_plain (next ∷ parts) all.1)

dotted_plain : (part : List ℕ) → IsDotted part → AllByRecursion (λ byte. (byte == 58) ≡ false) part
dotted_plain part dotted = rw (join_with_byte-slice_split 46 part) at (join_plain (groups part) dotted.each)

dotted_some : (part : List ℕ) → IsDotted part → 0 < length part
dotted_some [] dotted = absurd (omega (arith, dotted.four))
dotted_some (c ∷ part) dotted = omega arith

spell_parts : (dotted_end : Bool) (parts : List (List ℕ)) (all : List ℕ) → Spell dotted_end parts all → AllByRecursion IsPart parts
spell_parts dotted_end [] all spell = tt
spell_parts dotted_end (part ∷ []) all (inl spell) = (record { some = spell.0.0.0; plain = hex_plain part spell.0.0.1 }, tt)
spell_parts dotted_end (part ∷ []) all (inr spell) = (record { some = dotted_some part spell.1; plain = dotted_plain part spell.1 }, tt)
spell_parts dotted_end (part ∷ next ∷ parts) all spell = (record { some = spell.0.0.0; plain = hex_plain part spell.0.0.1 }, spell_parts dotted_end (next ∷ parts) spell.1.0 spell.1.2)

-- the parts of what was joined
split-join : (parts : List (List ℕ)) → 0 < length parts → AllByRecursion IsPart parts → slice_split (λ byte. byte == 58) (join_with_byte 58 parts) ≡ parts
split-join [] some all = absurd (omega arith)
split-join (part ∷ []) some all = slice_split_none (λ byte. byte == 58) part (All-from_recursion (λ byte. (byte == 58) ≡ false) part all.0.plain)
split-join (part ∷ next ∷ parts) some all =
    slice_split_at (λ byte. byte == 58) part 58 (join_with_byte 58 (next ∷ parts)) (All-from_recursion (λ byte. (byte == 58) ≡ false) part all.0.plain) refl
    ∙ ap (λ rest. part ∷ rest) (split-join (next ∷ parts) (omega arith) all.1)

-- no gap, by recursion
unfoldable pub NoGap : List ℕ → Type 0
NoGap [] = Unit {0}
NoGap (c ∷ []) = Unit {0}
NoGap (c ∷ d ∷ rest) = (c ≡ 58 → d ≡ 58 → ⊥) × NoGap (d ∷ rest)

pub no_gap-is : (text : List ℕ) → NoGap text → HasNoGap text
unfolding NoGap
no_gap-is [] none k inside first second = omega arith
no_gap-is (c ∷ []) none k inside first second = omega arith
no_gap-is (c ∷ d ∷ rest) none zero inside first second = none.0 first second
no_gap-is (c ∷ d ∷ rest) none (suc k) inside first second =
    let next : suc k + 1 ≡ suc (k + 1) = omega arith in
    no_gap-is (d ∷ rest) none.1 k (omega arith) first (rw next at second)

no_colon : (c : ℕ) → (c == 58) ≡ false → c ≡ 58 → ⊥
no_colon c plain colon = grind (arith, nat_tests)

no_gap_part : (part rest : List ℕ) → AllByRecursion (λ byte. (byte == 58) ≡ false) part → NoGap (58 ∷ rest) → NoGap (part ++ 58 ∷ rest)
unfolding NoGap
no_gap_part [] rest plain after = after
no_gap_part (c ∷ []) rest plain after = (λ first second. no_colon c plain.0 first, after)
no_gap_part (c ∷ d ∷ part) rest plain after = (λ first second. no_colon c plain.0 first, no_gap_part (d ∷ part) rest plain.1 after)

no_gap_colon : (part rest : List ℕ) → IsPart part → NoGap (part ++ rest) → NoGap (58 ∷ (part ++ rest))
unfolding NoGap
no_gap_colon [] rest is_part none = absurd (omega (arith, is_part.some))
no_gap_colon (c ∷ part) rest is_part none = (λ first second. no_colon c is_part.plain.0 second, none)

no_gap_next : (next : List ℕ) (parts : List (List ℕ)) (tail : List ℕ) → IsPart next → NoGap (join_with_byte 58 (next ∷ parts) ++ tail) → NoGap (58 ∷ (join_with_byte 58 (next ∷ parts) ++ tail))
no_gap_next next [] tail is_part none = no_gap_colon next tail is_part none
no_gap_next next (part ∷ parts) tail is_part none =
    rw (append_assoc next (58 ∷ join_with_byte 58 (part ∷ parts)) tail) (no_gap_colon next ((58 ∷ join_with_byte 58 (part ∷ parts)) ++ tail) is_part (rw (append_assoc next (58 ∷ join_with_byte 58 (part ∷ parts)) tail) at none))

no_gap_join : (parts : List (List ℕ)) → AllByRecursion IsPart parts → NoGap (join_with_byte 58 parts ++ 58 ∷ [])
unfolding NoGap
no_gap_join [] all = tt
no_gap_join (part ∷ []) all = no_gap_part part [] all.0.plain tt
no_gap_join (part ∷ next ∷ parts) all =
    rw append_assoc (no_gap_part part (join_with_byte 58 (next ∷ parts) ++ 58 ∷ []) all.0.plain (no_gap_next next parts (58 ∷ []) all.1.0 (no_gap_join (next ∷ parts) all.1)))

-- what is read without a gap
pub full_sound : (text all : List ℕ) → Spell true (slice_split (λ byte. byte == 58) text) all → IsFull text all
full_sound text all spell = record { parts = slice_split (λ byte. byte == 58) text; spelled = sym (join_with_byte-slice_split 58 text); spell = spell }

some_parts : (dotted_end : Bool) (parts : List (List ℕ)) (all : List ℕ) → 0 < length all → Spell dotted_end parts all → 0 < length parts
some_parts dotted_end [] all some spell = absurd (omega (arith, some, ap length spell))
some_parts dotted_end (part ∷ parts) all some spell = omega arith

join_some : (part : List ℕ) (parts : List (List ℕ)) → IsPart part → 0 < length (join_with_byte 58 (part ∷ parts))
join_some part [] is_part = is_part.some
join_some part (next ∷ parts) is_part = omega (arith, is_part.some, length-append part (58 ∷ join_with_byte 58 (next ∷ parts)))

side_of : (dotted_end : Bool) (text : List ℕ) (parts : List (List ℕ)) (all : List ℕ) → 0 < length text → slice_split (λ byte. byte == 58) text ≡ parts → Spell dotted_end parts all → SpellSide dotted_end text all
side_of dotted_end [] parts all some split spell = absurd (omega arith)
side_of dotted_end (c ∷ text) parts all some split spell = rw split spell

pub full_complete : (text all : List ℕ) → 0 < length all → IsFull text all → Spell true (slice_split (λ byte. byte == 58) text) all
full_complete text all some full =
    let count = some_parts true full.parts all some full.spell in
    rw (full.spelled, split-join full.parts count (spell_parts true full.parts all full.spell)) full.spell

-- a side of a gap
pub side_complete : (dotted_end : Bool) (parts : List (List ℕ)) (all : List ℕ) → Spell dotted_end parts all → SpellSide dotted_end (join_with_byte 58 parts) all
side_complete dotted_end [] all spell = spell
side_complete dotted_end (part ∷ parts) all spell =
    side_of dotted_end (join_with_byte 58 (part ∷ parts)) (part ∷ parts) all (join_some part parts (spell_parts dotted_end (part ∷ parts) all spell).0)
    (split-join (part ∷ parts) (omega arith) (spell_parts dotted_end (part ∷ parts) all spell)) spell

after_gap : (b y : List ℕ) → (b ++ 58 ∷ []) ++ 58 ∷ y ≡ b ++ 58 ∷ 58 ∷ y
after_gap b y = append_assoc b (58 ∷ []) (58 ∷ y)

second_colon : (b y : List ℕ) → get_or (b ++ 58 ∷ 58 ∷ y) (length b + 1) 0 ≡ 58
second_colon b y =
    let long : length (b ++ 58 ∷ []) ≡ length b + 1 = omega (arith, length-append b (58 ∷ [])) in
    rw (← after_gap b y, ← long) (get_or-append_seam (b ++ 58 ∷ []) 58 y 0)

before_gap : (a x : List ℕ) (k : ℕ) → k < length a + 1 → get_or (a ++ 58 ∷ []) k 0 ≡ get_or (a ++ 58 ∷ 58 ∷ x) k 0
before_gap a x k inside =
    rw (← after_gap a x) (sym (get_or_append_left (a ++ 58 ∷ []) (58 ∷ x) 0 k (omega (arith, length-append a (58 ∷ [])))))

-- no gap comes before the first one
gap_not_before : (a b x y : List ℕ) → HasNoGap (a ++ 58 ∷ []) → a ++ 58 ∷ 58 ∷ x ≡ b ++ 58 ∷ 58 ∷ y → length b < length a → ⊥
gap_not_before a b x y none same below =
    none (length b) (omega (arith, length-append a (58 ∷ [])))
    (before_gap a x (length b) (omega arith) ∙ ap (λ t. get_or t (length b) 0) same ∙ get_or-append_seam b 58 (58 ∷ y) 0)
    (before_gap a x (length b + 1) (omega arith) ∙ ap (λ t. get_or t (length b + 1) 0) same ∙ second_colon b y)

same_length : (a b : ℕ) → (b < a → ⊥) → (a < b → ⊥) → a ≡ b
same_length a b not_below not_above = omega (arith, not_below, not_above)

cancel : (a b s t : List ℕ) → length a ≡ length b → a ++ s ≡ b ++ t → (a ≡ b) × (s ≡ t)
cancel [] [] s t long same = (refl, same)
cancel [] (y ∷ b) s t long same = absurd (omega (arith, long))
cancel (x ∷ a) [] s t long same = absurd (omega (arith, long))
cancel (x ∷ a) (y ∷ b) s t long same =
    let tail : a ++ s ≡ b ++ t = cc in
    let head : x ≡ y = cc in
    let rest = cancel a b s t (omega (arith, long)) tail in
    let equal = rest.0 in
    (cc, rest.1)

-- so a text has one first gap
pub gap_unique : (a b x y : List ℕ) → HasNoGap (a ++ 58 ∷ []) → HasNoGap (b ++ 58 ∷ []) → a ++ 58 ∷ 58 ∷ x ≡ b ++ 58 ∷ 58 ∷ y → (a ≡ b) × (x ≡ y)
gap_unique a b x y none_a none_b same =
    let long = same_length (length a) (length b) (gap_not_before a b x y none_a same) (gap_not_before b a y x none_b (sym same)) in
    let parts = cancel a b (58 ∷ 58 ∷ x) (58 ∷ 58 ∷ y) long same in
    let rest = parts.1 in
    let ends : x ≡ y = cc in
    (parts.0, ends)

-- what stands round the gap of a shortened text
pub shortened_complete : (text all : List ℕ) (short : IsShortened text all) →
    HasNoGap (join_with_byte 58 short.prefix ++ 58 ∷ []) × SpellSide false (join_with_byte 58 short.prefix) short.high × SpellSide true (join_with_byte 58 short.back) short.low
shortened_complete text all short = (
  no_gap-is _ (no_gap_join short.prefix (spell_parts false short.prefix short.high short.spell_front)),
  side_complete false short.prefix short.high short.spell_front,
  side_complete true short.back short.low short.spell_back,
)

-- a text with a gap has one, and one without has none
pub has_gap : (b y : List ℕ) → HasNoGap (b ++ 58 ∷ 58 ∷ y) → ⊥
has_gap b y none =
    none (length b) (omega (arith, length-append b (58 ∷ 58 ∷ y))) (get_or-append_seam b 58 (58 ∷ y) 0) (second_colon b y)

no_gap_front : (a x : List ℕ) → HasNoGap (a ++ x) → HasNoGap a
no_gap_front a x none k inside first second =
    none k (omega (arith, length-append a x)) (get_or_append_left a x 0 k (omega arith) ∙ first) (get_or_append_left a x 0 (k + 1) inside ∙ second)

pub full_no_gap : (text all : List ℕ) → IsFull text all → HasNoGap text
full_no_gap text all full =
    rw full.spelled (no_gap_front (join_with_byte 58 full.parts) (58 ∷ []) (no_gap-is _ (no_gap_join full.parts (spell_parts true full.parts all full.spell))))
