-- Bytes that make one word are the same.
use Rattle.std.proofs.Common.{◌≡◌, ℕ, zero, suc, ◌+◌, ◌-◌, ◌*◌, ◌%◌, ◌^◌, ◌<◌, List, length, get_or, bit_or, refl, sym, subst, ◌∙◌, inl, inr, arith}
use Rattle.std.proofs.lemmas.Bool.{cases_lt}
use Rattle.std.proofs.lemmas.Grind.{or_before_shift, same_number_lists}
use Rattle.key_index.specs.Sip.{half_of, word_of}

abbrev pub IsBytes : List ℕ → Type 0
IsBytes xs = (i : ℕ) → get_or xs i 0 < 256

-- a word, byte by byte
abbrev four : (b0 b1 b2 b3 : ℕ) → ℕ
four b0 b1 b2 b3 = b0 + 256 * (b1 + 256 * (b2 + 256 * b3))

half_sum : (xs : List ℕ) (i : ℕ) → IsBytes xs → half_of xs i ≡ four (get_or xs i 0) (get_or xs (i + 1) 0) (get_or xs (i + 2) 0) (get_or xs (i + 3) 0)
half_sum xs i small =
    let b0 = get_or xs i 0 in let b1 = get_or xs (i + 1) 0 in let b2 = get_or xs (i + 2) 0 in let b3 = get_or xs (i + 3) 0 in
    let s0 = small i in let s1 = small (i + 1) in let s2 = small (i + 2) in let s3 = small (i + 3) in
    let w0 = bit_or 0 ((b0 * 2 ^ 0) % 2 ^ 64) in let w1 = bit_or w0 ((b1 * 2 ^ 8) % 2 ^ 64) in let w2 = bit_or w1 ((b2 * 2 ^ 16) % 2 ^ 64) in
    let e0 : w0 ≡ b0 = or_before_shift 0 b0 (2 ^ 0) (2 ^ 64) refl (omega arith) (omega (arith, s0)) ∙ omega arith in
    let e1 : w1 ≡ b1 * 2 ^ 8 + w0 = or_before_shift w0 b1 (2 ^ 8) (2 ^ 64) refl (omega (arith, e0, s0)) (omega (arith, s1)) in
    let e2 : w2 ≡ b2 * 2 ^ 16 + w1 = or_before_shift w1 b2 (2 ^ 16) (2 ^ 64) refl (omega (arith, e1, e0, s0, s1)) (omega (arith, s2)) in
    let e3 : half_of xs i ≡ b3 * 2 ^ 24 + w2 = or_before_shift w2 b3 (2 ^ 24) (2 ^ 64) refl (omega (arith, e2, e1, e0, s0, s1, s2)) (omega (arith, s3)) in
    omega (arith, e0, e1, e2, e3)

word_sum : (xs : List ℕ) (i : ℕ) → IsBytes xs
    → word_of xs i ≡ four (get_or xs i 0) (get_or xs (i + 1) 0) (get_or xs (i + 2) 0) (get_or xs (i + 3) 0) + 2 ^ 32 * four (get_or xs (i + 4) 0) (get_or xs (i + 5) 0) (get_or xs (i + 6) 0) (get_or xs (i + 7) 0)
word_sum xs i small =
    let h = half_of xs i in let half = half_sum xs i small in
    let b4 = get_or xs (i + 4) 0 in let b5 = get_or xs (i + 5) 0 in let b6 = get_or xs (i + 6) 0 in let b7 = get_or xs (i + 7) 0 in
    let s4 = small (i + 4) in let s5 = small (i + 5) in let s6 = small (i + 6) in let s7 = small (i + 7) in
    let low : h < 2 ^ 32 = omega (arith, half, small i, small (i + 1), small (i + 2), small (i + 3)) in
    let w4 = bit_or h ((b4 * 2 ^ 32) % 2 ^ 64) in let w5 = bit_or w4 ((b5 * 2 ^ 40) % 2 ^ 64) in let w6 = bit_or w5 ((b6 * 2 ^ 48) % 2 ^ 64) in
    let e4 : w4 ≡ b4 * 2 ^ 32 + h = or_before_shift h b4 (2 ^ 32) (2 ^ 64) refl low (omega (arith, s4)) in
    let e5 : w5 ≡ b5 * 2 ^ 40 + w4 = or_before_shift w4 b5 (2 ^ 40) (2 ^ 64) refl (omega (arith, e4, low, s4)) (omega (arith, s5)) in
    let e6 : w6 ≡ b6 * 2 ^ 48 + w5 = or_before_shift w5 b6 (2 ^ 48) (2 ^ 64) refl (omega (arith, e5, e4, low, s4, s5)) (omega (arith, s6)) in
    let e7 : word_of xs i ≡ b7 * 2 ^ 56 + w6 = or_before_shift w6 b7 (2 ^ 56) (2 ^ 64) refl (omega (arith, e6, e5, e4, low, s4, s5, s6)) (omega (arith, s7)) in
    omega (arith, half, e4, e5, e6, e7)

-- the lowest byte and the rest are told by their sum
lowest : (a b x y : ℕ) → a < 256 → b < 256 → a + 256 * x ≡ b + 256 * y → (a ≡ b) × (x ≡ y)
lowest a b x y sa sb is = (omega (arith, sa, sb, is), omega (arith, sa, sb, is))

four_same : (a0 a1 a2 a3 b0 b1 b2 b3 : ℕ) → a0 < 256 → a1 < 256 → a2 < 256 → b0 < 256 → b1 < 256 → b2 < 256 → four a0 a1 a2 a3 ≡ four b0 b1 b2 b3 → (a0 ≡ b0) × ((a1 ≡ b1) × ((a2 ≡ b2) × (a3 ≡ b3)))
four_same a0 a1 a2 a3 b0 b1 b2 b3 s0 s1 s2 t0 t1 t2 is =
    let r0 = lowest a0 b0 (a1 + 256 * (a2 + 256 * a3)) (b1 + 256 * (b2 + 256 * b3)) s0 t0 is in
    let r1 = lowest a1 b1 (a2 + 256 * a3) (b2 + 256 * b3) s1 t1 r0.1 in
    let r2 = lowest a2 b2 a3 b3 s2 t2 r1.1 in
    (r0.0, (r1.0, (r2.0, r2.1)))

four_small : (b0 b1 b2 b3 : ℕ) → b0 < 256 → b1 < 256 → b2 < 256 → b3 < 256 → four b0 b1 b2 b3 < 2 ^ 32
four_small b0 b1 b2 b3 s0 s1 s2 s3 = omega (arith, s0, s1, s2, s3)

halves : (a b x y : ℕ) → a < 2 ^ 32 → b < 2 ^ 32 → a + 2 ^ 32 * x ≡ b + 2 ^ 32 * y → (a ≡ b) × (x ≡ y)
halves a b x y sa sb is = (omega (arith, sa, sb, is), omega (arith, sa, sb, is))

by_four : (P : ℕ → Type 0) → P 0 → P 1 → P 2 → P 3 → (i : ℕ) → i < 4 → P i
by_four P p0 p1 p2 p3 zero within = p0
by_four P p0 p1 p2 p3 (suc zero) within = p1
by_four P p0 p1 p2 p3 (suc (suc zero)) within = p2
by_four P p0 p1 p2 p3 (suc (suc (suc zero))) within = p3
by_four P p0 p1 p2 p3 (suc (suc (suc (suc i)))) within = absurd (omega (arith, within))

module _ (xs ys : List ℕ) (small : IsBytes xs) (smalls : IsBytes ys) where
  abbrev IsSameAt : ℕ → Type 0
  IsSameAt i = get_or xs i 0 ≡ get_or ys i 0

  same_half : half_of xs 0 ≡ half_of ys 0 → (i : ℕ) → i < 4 → IsSameAt i
  same_half is =
      let same = four_same _ _ _ _ _ _ _ _ (small 0) (small 1) (small 2) (smalls 0) (smalls 1) (smalls 2) (sym (half_sum xs 0 small) ∙ is ∙ half_sum ys 0 smalls) in
      by_four IsSameAt same.0 same.1.0 same.1.1.0 same.1.1.1

  same_word : (at : ℕ) → word_of xs at ≡ word_of ys at → (i : ℕ) → i < 8 → IsSameAt (at + i)
  same_word at is i within =
      let cut = halves _ _ _ _ (four_small _ _ _ _ (small at) (small (at + 1)) (small (at + 2)) (small (at + 3))) (four_small _ _ _ _ (smalls at) (smalls (at + 1)) (smalls (at + 2)) (smalls (at + 3)))
      (sym (word_sum xs at small) ∙ is ∙ word_sum ys at smalls) in
      let low = four_same _ _ _ _ _ _ _ _ (small at) (small (at + 1)) (small (at + 2)) (smalls at) (smalls (at + 1)) (smalls (at + 2)) cut.0 in
      let high = four_same _ _ _ _ _ _ _ _ (small (at + 4)) (small (at + 5)) (small (at + 6)) (smalls (at + 4)) (smalls (at + 5)) (smalls (at + 6)) cut.1 in
      let start : at ≡ at + 0 = omega arith in
      elim (cases_lt i 4) [
        | inl lt ↦ by_four (λ k. IsSameAt (at + k)) (subst IsSameAt start low.0) low.1.0 low.1.1.0 low.1.1.1 i lt
        | inr le ↦ (
            let there : at + 4 + (i - 4) ≡ at + i = omega (arith, le) in
            let begin : at + 4 ≡ at + 4 + 0 = omega arith in
            let one : at + 5 ≡ at + 4 + 1 = omega arith in
            let two : at + 6 ≡ at + 4 + 2 = omega arith in
            let three : at + 7 ≡ at + 4 + 3 = omega arith in
            subst IsSameAt there (by_four (λ k. IsSameAt (at + 4 + k)) (subst IsSameAt begin high.0) (subst IsSameAt one high.1.0) (subst IsSameAt two high.1.1.0) (subst IsSameAt three high.1.1.1) (i - 4) (omega (arith, within, le))))
      ]

  pub same_of_4 : length xs ≡ 4 → length ys ≡ 4 → half_of xs 0 ≡ half_of ys 0 → xs ≡ ys
  same_of_4 long longs is = same_number_lists xs ys (long ∙ sym longs) (λ i within. same_half is i (omega (arith, within, long)))

  pub same_of_16 : length xs ≡ 16 → length ys ≡ 16 → word_of xs 0 ≡ word_of ys 0 → word_of xs 8 ≡ word_of ys 8 → xs ≡ ys
  same_of_16 long longs low high = same_number_lists xs ys (long ∙ sym longs) (λ i within. elim (cases_lt i 8) [
    | inl lt ↦ (let there : 0 + i ≡ i = omega arith in subst IsSameAt there (same_word 0 low i lt))
    | inr le ↦ (let there : 8 + (i - 8) ≡ i = omega (arith, le) in subst IsSameAt there (same_word 8 high (i - 8) (omega (arith, within, le, long))))
  ])
