-- What stands round the last colon.
use Rattle.std.proofs.Common.{◌≡◌, ℕ, ◌+◌, ◌-◌, ◌<◌, ◌≤◌, List, length, get_or, take, drop, arith, refl, true, false, not, length-drop}
use Rattle.std.proofs.lemmas.Bool.{eq-eqb, ne_eqb, not_from_false, not_from_true}
use Rattle.std.proofs.lemmas.List.Folds.{list_any_at, list_any_none}
use Rattle.std.proofs.lemmas.List.{take_all}
use Rattle.std.proofs.lemmas.List.Elements.{All-from_get_or}
use Rattle.std.proofs.lemmas.List.Sums.{suffix_len_is}
use Rattle.std.specs.List.{after_last, before_last, list_any, suffix_len}
use Rattle.base_lines.specs.Parts.{is_byte}

-- how much stands behind the last colon
behind : (text : List ℕ) (at : ℕ) → at < length text → get_or text at 0 ≡ 58 → ((k : ℕ) → at + 1 ≤ k → k < length text → get_or text k 0 ≡ 58 → ⊥) →
    suffix_len (λ byte. not (is_byte 58 byte)) text ≡ length text - (at + 1)
behind text at inside here none =
    let last : at + 1 - 1 ≡ at = omega arith in
    suffix_len_is (λ byte. not (is_byte 58 byte)) text (at + 1) 0 (omega (arith, inside)) (λ k above below. not_from_false (is_byte 58 (get_or text k 0)) (ne_eqb (get_or text k 0) 58 (none k above below)))
    (λ some. rw last (not_from_true (is_byte 58 (get_or text at 0)) (eq-eqb (get_or text at 0) 58 here)))

pub last_colon : (text : List ℕ) (end : ℕ) → 0 < end → end ≤ length text → get_or text (end - 1) 0 ≡ 58 → ((k : ℕ) → end ≤ k → k < length text → get_or text k 0 ≡ 58 → ⊥) →
    (list_any (is_byte 58) text ≡ true) × (take (end - 1) text ≡ before_last (is_byte 58) text)
    × (take (length text - (end - 1 + 1)) (drop (end - 1 + 1) text) ≡ after_last (is_byte 58) text)
last_colon text end some inside here none =
    let rest = behind text (end - 1) (omega (arith, some, inside)) here (λ k above below. none k (omega (arith, above, some)) below) in
    let prefix : length text - (length text - (end - 1 + 1)) - 1 ≡ end - 1 = omega (arith, inside, some) in
    let back : length text - (length text - (end - 1 + 1)) ≡ end - 1 + 1 = omega (arith, inside, some) in
    let all : take (length text - (end - 1 + 1)) (drop (end - 1 + 1) text) ≡ drop (end - 1 + 1) text = take_all _ _ (omega (arith, length-drop (end - 1 + 1) text)) in
    (list_any_at (is_byte 58) text (end - 1) 0 (omega (arith, some, inside)) (eq-eqb (get_or text (end - 1) 0) 58 here), rw (rest, prefix) refl, rw (all, rest, back) refl)

pub no_colon : (text : List ℕ) → ((k : ℕ) → k < length text → get_or text k 0 ≡ 58 → ⊥) → list_any (is_byte 58) text ≡ false
no_colon text none = list_any_none (is_byte 58) text (All-from_get_or (λ byte. is_byte 58 byte ≡ false) text 0 (λ k inside. ne_eqb (get_or text k 0) 58 (none k inside)))
