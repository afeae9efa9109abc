-- Texts put together.
use Rattle.std.proofs.Common.{◌≡◌, ℕ, List, [], ◌∷◌, ◌++◌, append_assoc}

four_words : (old a b c d end : List ℕ) →
    (((((((old ++ a) ++ 32 ∷ []) ++ b) ++ 32 ∷ []) ++ c) ++ 32 ∷ []) ++ d) ++ end ≡ old ++ ((a ++ 32 ∷ (b ++ 32 ∷ (c ++ 32 ∷ d))) ++ end)
four_words old a b c d end = simp append_assoc

-- four words, each behind what was written, with spaces between them and an end
pub words_written : (old a b c d end s1 s2 s3 s4 s5 s6 s7 new : List ℕ) →
    s1 ≡ old ++ a → s2 ≡ s1 ++ 32 ∷ [] → s3 ≡ s2 ++ b → s4 ≡ s3 ++ 32 ∷ [] → s5 ≡ s4 ++ c → s6 ≡ s5 ++ 32 ∷ [] → s7 ≡ s6 ++ d → new ≡ s7 ++ end →
    new ≡ old ++ ((a ++ 32 ∷ (b ++ 32 ∷ (c ++ 32 ∷ d))) ++ end)
words_written old a b c d end s1 s2 s3 s4 s5 s6 s7 new e1 e2 e3 e4 e5 e6 e7 e8 = cc (four_words old a b c d end)
