-- The groups of an IPv6 text, part by part.
use Rattle.std.proofs.Common.{◌≡◌, ℕ, ◌<◌, ◌≤◌, ◌==◌, List, [], ◌∷◌, ◌++◌, length, arith, refl, ◌∙◌, ap, Bool, append_assoc, length-append, inl, inr}
use Rattle.std.specs.List.{slice_split}
use Rattle.std.specs.Str.Parse.{digits_value}
use Rattle.std.proofs.lemmas.List.Splits.{length-slice_split}
use Rattle.stick_key.specs.Ipv6Text.{Spell, IsHexGroup, pairs}
use Rattle.stick_key.specs.Dotted.{IsDotted, numbers, groups}
use Rattle.std.proofs.lemmas.List.{length-map}

some_part : (p : ℕ → Bool) (text : List ℕ) → 0 < length (slice_split p text)
some_part p text = omega (arith, length-slice_split p text)

more_forward : (dotted_end : Bool) (part : List ℕ) (parts : List (List ℕ)) (all : List ℕ) → 0 < length parts → Spell dotted_end (part ∷ parts) all →
    IsHexGroup part × ((last : List ℕ) × (all ≡ digits_value 16 part ∷ last) × Spell dotted_end parts last)
more_forward dotted_end part [] all some spell = absurd (omega arith)
more_forward dotted_end part (next ∷ parts) all some spell = spell

more_back : (dotted_end : Bool) (part : List ℕ) (parts : List (List ℕ)) (last : List ℕ) → 0 < length parts → IsHexGroup part → Spell dotted_end parts last →
    Spell dotted_end (part ∷ parts) (digits_value 16 part ∷ last)
more_back dotted_end part [] last some group spell = absurd (omega arith)
more_back dotted_end part (next ∷ parts) last some group spell = (group, (last, refl, spell))

-- one group more
pub spelled_more : (dotted_end : Bool) (text rest after part prefix : List ℕ) (group : ℕ) →
    slice_split (λ byte. byte == 58) rest ≡ part ∷ slice_split (λ byte. byte == 58) after → IsHexGroup part → group ≡ digits_value 16 part →
    ((last : List ℕ) → Spell dotted_end (slice_split (λ byte. byte == 58) rest) last → Spell dotted_end (slice_split (λ byte. byte == 58) text) (prefix ++ last)) →
    (last : List ℕ) → Spell dotted_end (slice_split (λ byte. byte == 58) after) last → Spell dotted_end (slice_split (λ byte. byte == 58) text) ((prefix ++ group ∷ []) ++ last)
spelled_more dotted_end text rest after part prefix group found is_group same so_far last spell =
    rw (append_assoc, same) (so_far (digits_value 16 part ∷ last) (rw found (more_back dotted_end part (slice_split (λ byte. byte == 58) after) last (some_part (λ byte. byte == 58) after) is_group spell)))

-- and nothing else
pub only_more : (dotted_end : Bool) (text rest after part prefix : List ℕ) (group : ℕ) →
    slice_split (λ byte. byte == 58) rest ≡ part ∷ slice_split (λ byte. byte == 58) after → group ≡ digits_value 16 part →
    ((all : List ℕ) → Spell dotted_end (slice_split (λ byte. byte == 58) text) all → (last : List ℕ) × (all ≡ prefix ++ last) × Spell dotted_end (slice_split (λ byte. byte == 58) rest) last) →
    (all : List ℕ) → Spell dotted_end (slice_split (λ byte. byte == 58) text) all →
    (last : List ℕ) × (all ≡ (prefix ++ group ∷ []) ++ last) × Spell dotted_end (slice_split (λ byte. byte == 58) after) last
only_more dotted_end text rest after part prefix group found same so_far all spell =
    let here = so_far all spell in
    let more = more_forward dotted_end part (slice_split (λ byte. byte == 58) after) here.0 (some_part (λ byte. byte == 58) after) (rw found at here.2) in
    (more.1.0, rw (append_assoc, same) (here.1 ∙ ap (λ last. prefix ++ last) more.1.1), more.1.2)

-- a part that is no group ends it
pub only_group : (dotted_end : Bool) (text rest after part prefix : List ℕ) →
    slice_split (λ byte. byte == 58) rest ≡ part ∷ slice_split (λ byte. byte == 58) after → ¬ (IsHexGroup part) →
    ((all : List ℕ) → Spell dotted_end (slice_split (λ byte. byte == 58) text) all → (last : List ℕ) × (all ≡ prefix ++ last) × Spell dotted_end (slice_split (λ byte. byte == 58) rest) last) →
    (all : List ℕ) → Spell dotted_end (slice_split (λ byte. byte == 58) text) all → ⊥
only_group dotted_end text rest after part prefix found no_group so_far all spell =
    let here = so_far all spell in
    no_group (more_forward dotted_end part (slice_split (λ byte. byte == 58) after) here.0 (some_part (λ byte. byte == 58) after) (rw found at here.2)).0

pairs_some : (bytes : List ℕ) → 0 < length bytes → 0 < length (pairs bytes)
pairs_some [] some = absurd (omega arith)
pairs_some (high ∷ []) some = omega arith
pairs_some (high ∷ low ∷ rest) some = omega arith

dotted_some : (part : List ℕ) → IsDotted part → 0 < length (pairs (numbers part))
dotted_some part dotted = pairs_some (numbers part) (omega (arith, dotted.four, length-map (groups part) (digits_value 10)))

-- a part spells at least one group
nonempty : (dotted_end : Bool) (parts : List (List ℕ)) (last : List ℕ) → 0 < length parts → Spell dotted_end parts last → 0 < length last
nonempty dotted_end [] last some spell = absurd (omega arith)
nonempty dotted_end (part ∷ []) last some (inl spell) = rw spell.1 (omega arith)
nonempty dotted_end (part ∷ []) last some (inr spell) = rw spell.3 (dotted_some part spell.1)
nonempty dotted_end (part ∷ next ∷ parts) last some spell = rw spell.1.1 (omega arith)

-- after eight groups a further part is too much
pub too_many : (dotted_end : Bool) (text rest prefix : List ℕ) → 8 ≤ length prefix →
    ((all : List ℕ) → Spell dotted_end (slice_split (λ byte. byte == 58) text) all → (last : List ℕ) × (all ≡ prefix ++ last) × Spell dotted_end (slice_split (λ byte. byte == 58) rest) last) →
    (all : List ℕ) → Spell dotted_end (slice_split (λ byte. byte == 58) text) all → 8 < length all
too_many dotted_end text rest prefix full so_far all spell =
    let here = so_far all spell in
    let some = nonempty dotted_end (slice_split (λ byte. byte == 58) rest) here.0 (some_part (λ byte. byte == 58) rest) here.2 in
    omega (arith, some, full, ap length here.1, length-append prefix here.0)
