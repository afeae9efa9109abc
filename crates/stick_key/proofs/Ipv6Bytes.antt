-- Groups and their bytes.
use Rattle.std.proofs.Common.{◌≡◌, ℕ, suc, ◌+◌, ◌*◌, ◌/◌, ◌%◌, ◌<◌, List, [], ◌∷◌, length, get_or, flat_map, arith, refl, sym, ◌∙◌}
use Rattle.stick_key.specs.Ipv6Text.{pairs, group_bytes}

get_next : (a b : ℕ) (xs : List ℕ) (k j : ℕ) → j ≡ k + 2 → get_or (a ∷ b ∷ xs) j 0 ≡ get_or xs k 0
get_next a b xs k j same = let next : j ≡ suc (suc k) = omega arith in rw next

-- the numbers of two bytes at a time
pub are_pairs : (bytes groups : List ℕ) → length bytes ≡ 2 * length groups →
    ((k : ℕ) → k < length groups → get_or groups k 0 ≡ 256 * get_or bytes (2 * k) 0 + get_or bytes (2 * k + 1) 0) → groups ≡ pairs bytes
are_pairs [] [] long each = refl
are_pairs [] (g ∷ groups) long each = absurd (omega (arith, long))
are_pairs (a ∷ []) [] long each = absurd (omega (arith, long))
are_pairs (a ∷ []) (g ∷ groups) long each = absurd (omega (arith, long))
are_pairs (a ∷ b ∷ bytes) [] long each = absurd (omega (arith, long))
are_pairs (a ∷ b ∷ bytes) (g ∷ groups) long each =
    let first : g ≡ 256 * a + b = each 0 (omega arith) in
    let rest : groups ≡ pairs bytes = are_pairs bytes groups (omega (arith, long)) (λ k inside.
    each (suc k) (omega arith) ∙ cc (get_next a b bytes (2 * k) (2 * suc k) (omega arith), get_next a b bytes (2 * k + 1) (2 * suc k + 1) (omega arith))) in
    cc

-- the bytes of each group
pub are_bytes : (groups bytes : List ℕ) → length bytes ≡ 2 * length groups →
    ((k : ℕ) → k < length groups → get_or bytes (2 * k) 0 ≡ get_or groups k 0 / 256) →
    ((k : ℕ) → k < length groups → get_or bytes (2 * k + 1) 0 ≡ get_or groups k 0 % 256) → bytes ≡ flat_map group_bytes groups
are_bytes [] [] long high low = refl
are_bytes [] (a ∷ bytes) long high low = absurd (omega (arith, long))
are_bytes (g ∷ groups) [] long high low = absurd (omega (arith, long))
are_bytes (g ∷ groups) (a ∷ []) long high low = absurd (omega (arith, long))
are_bytes (g ∷ groups) (a ∷ b ∷ bytes) long high low =
    let first : a ≡ g / 256 = high 0 (omega arith) in
    let second : b ≡ g % 256 = low 0 (omega arith) in
    let rest : bytes ≡ flat_map group_bytes groups = are_bytes groups bytes (omega (arith, long))
    (λ k inside. sym (get_next a b bytes (2 * k) (2 * suc k) (omega arith)) ∙ high (suc k) (omega arith))
    (λ k inside. sym (get_next a b bytes (2 * k + 1) (2 * suc k + 1) (omega arith)) ∙ low (suc k) (omega arith)) in
    cc
