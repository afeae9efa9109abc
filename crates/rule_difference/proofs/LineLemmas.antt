-- The lines that are left after one more was taken.
use Rattle.std.proofs.Common.{◌≡◌, ◌∙◌, ℕ, ◌+◌, List, [], ◌∷◌, drop, Option, Some, None, Bor, ap, sym}
use Rattle.std.proofs.lemmas.List.{drop-drop}
use Rattle.std.specs.Prelude.{MatchOption}

-- the lines that are left stand after one more than those before them
pub after_next : (result : Option (Bor (List ℕ))) (text lines rest : List (List ℕ)) (taken : ℕ) →
    MatchOption result ((lines ≡ []) × (rest ≡ [])) (λ line. lines ≡ line.now ∷ rest) → lines ≡ drop taken text → rest ≡ drop (taken + 1) text
after_next None text lines rest taken (none, none_left) left = none_left ∙ (ap (drop 1) (sym none ∙ left) ∙ drop-drop 1 taken text)
after_next (Some line) text lines rest taken lines_are left = ap (drop 1) (sym lines_are ∙ left) ∙ drop-drop 1 taken text
