-- What std's hasher makes of four bytes, and of sixteen.
use Rattle.std.proofs.Common.{◌≡◌, ℕ, ◌*◌, ◌%◌, ◌^◌, List, [], ◌∷◌, length, bit_or, refl, arith}
use Rattle.core.specs.Hash.DefaultHasher.{round, write_word, write_byte, with_keys, finish, write}
use Rattle.key_index.specs.Sip.{finished_by, half_of, word_of}

pub of_four : (seed : ℕ) (bytes : List ℕ) → length bytes ≡ 4 → finished_by (with_keys seed seed) (bit_or ((4 * 2 ^ 56) % 2 ^ 64) (half_of bytes 0)) ≡ finish (write (with_keys seed seed) bytes)
unfolding round write_word write_byte with_keys finish write
of_four seed [] is = absurd (omega arith)
of_four seed (b0 ∷ []) is = absurd (omega arith)
of_four seed (b0 ∷ b1 ∷ []) is = absurd (omega arith)
of_four seed (b0 ∷ b1 ∷ b2 ∷ []) is = absurd (omega arith)
of_four seed (b0 ∷ b1 ∷ b2 ∷ b3 ∷ []) is = refl
of_four seed (b0 ∷ b1 ∷ b2 ∷ b3 ∷ more ∷ rest) is = absurd (omega arith)

pub of_sixteen : (seed : ℕ) (bytes : List ℕ) → length bytes ≡ 16 → finished_by (write_word (write_word (with_keys seed seed) (word_of bytes 0)) (word_of bytes 8)) ((16 * 2 ^ 56) % 2 ^ 64) ≡ finish (write (with_keys seed seed) bytes)
unfolding round write_word write_byte with_keys finish write
of_sixteen seed [] is = absurd (omega arith)
of_sixteen seed (b0 ∷ []) is = absurd (omega arith)
of_sixteen seed (b0 ∷ b1 ∷ []) is = absurd (omega arith)
of_sixteen seed (b0 ∷ b1 ∷ b2 ∷ []) is = absurd (omega arith)
of_sixteen seed (b0 ∷ b1 ∷ b2 ∷ b3 ∷ []) is = absurd (omega arith)
of_sixteen seed (b0 ∷ b1 ∷ b2 ∷ b3 ∷ b4 ∷ []) is = absurd (omega arith)
of_sixteen seed (b0 ∷ b1 ∷ b2 ∷ b3 ∷ b4 ∷ b5 ∷ []) is = absurd (omega arith)
of_sixteen seed (b0 ∷ b1 ∷ b2 ∷ b3 ∷ b4 ∷ b5 ∷ b6 ∷ []) is = absurd (omega arith)
of_sixteen seed (b0 ∷ b1 ∷ b2 ∷ b3 ∷ b4 ∷ b5 ∷ b6 ∷ b7 ∷ []) is = absurd (omega arith)
of_sixteen seed (b0 ∷ b1 ∷ b2 ∷ b3 ∷ b4 ∷ b5 ∷ b6 ∷ b7 ∷ b8 ∷ []) is = absurd (omega arith)
of_sixteen seed (b0 ∷ b1 ∷ b2 ∷ b3 ∷ b4 ∷ b5 ∷ b6 ∷ b7 ∷ b8 ∷ b9 ∷ []) is = absurd (omega arith)
of_sixteen seed (b0 ∷ b1 ∷ b2 ∷ b3 ∷ b4 ∷ b5 ∷ b6 ∷ b7 ∷ b8 ∷ b9 ∷ b10 ∷ []) is = absurd (omega arith)
of_sixteen seed (b0 ∷ b1 ∷ b2 ∷ b3 ∷ b4 ∷ b5 ∷ b6 ∷ b7 ∷ b8 ∷ b9 ∷ b10 ∷ b11 ∷ []) is = absurd (omega arith)
of_sixteen seed (b0 ∷ b1 ∷ b2 ∷ b3 ∷ b4 ∷ b5 ∷ b6 ∷ b7 ∷ b8 ∷ b9 ∷ b10 ∷ b11 ∷ b12 ∷ []) is = absurd (omega arith)
of_sixteen seed (b0 ∷ b1 ∷ b2 ∷ b3 ∷ b4 ∷ b5 ∷ b6 ∷ b7 ∷ b8 ∷ b9 ∷ b10 ∷ b11 ∷ b12 ∷ b13 ∷ []) is = absurd (omega arith)
of_sixteen seed (b0 ∷ b1 ∷ b2 ∷ b3 ∷ b4 ∷ b5 ∷ b6 ∷ b7 ∷ b8 ∷ b9 ∷ b10 ∷ b11 ∷ b12 ∷ b13 ∷ b14 ∷ []) is = absurd (omega arith)
of_sixteen seed (b0 ∷ b1 ∷ b2 ∷ b3 ∷ b4 ∷ b5 ∷ b6 ∷ b7 ∷ b8 ∷ b9 ∷ b10 ∷ b11 ∷ b12 ∷ b13 ∷ b14 ∷ b15 ∷ []) is = refl
of_sixteen seed (b0 ∷ b1 ∷ b2 ∷ b3 ∷ b4 ∷ b5 ∷ b6 ∷ b7 ∷ b8 ∷ b9 ∷ b10 ∷ b11 ∷ b12 ∷ b13 ∷ b14 ∷ b15 ∷ more ∷ rest) is = absurd (omega arith)
