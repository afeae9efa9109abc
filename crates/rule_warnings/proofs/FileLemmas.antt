-- The lines that are left, and the warnings of the lines so far with those of the lines that are left.
use Rattle.std.proofs.Common.{◌≡◌, ◌∙◌, append_assoc, ℕ, ◌+◌, Bool, false, ◌||◌, List, [], ◌∷◌, ◌++◌, drop, Option, Some, None, Bor, ap, sym}
use Rattle.std.proofs.lemmas.List.{drop-drop}
use Rattle.std.specs.Prelude.{MatchOption}
use Rattle.rule_warnings.specs.FileLines.{heading_behind, is_front, keyword, line_warning, line_warnings}
use Rattle.rule_warnings.specs.NoEffect.{listed}
use Rattle.rule_warnings.specs.declared.warning.Warning.{Warning}

-- behind one line more of those that are left
pub behind_one : (text lines rest : List (List ℕ)) (line : List ℕ) (others : ℕ) →
    lines ≡ line ∷ rest → lines ≡ drop others text → rest ≡ drop (others + 1) text
behind_one text lines rest line others lines_are left = ap (drop 1) (sym lines_are ∙ left) ∙ drop-drop 1 others text

pub behind_next : (result : Option (Bor (List ℕ))) (text lines rest : List (List ℕ)) (others : ℕ) →
    MatchOption result ((lines ≡ []) × (rest ≡ [])) (λ line. lines ≡ line.now ∷ rest) → lines ≡ drop others text → rest ≡ drop (others + 1) text
behind_next None text lines rest others (none, none_left) left = none_left ∙ (ap (drop 1) (sym none ∙ left) ∙ drop-drop 1 others text)
behind_next (Some line) text lines rest others lines_are left = behind_one text lines rest line.now others lines_are left

pub told_next : (text : List (List ℕ)) (all new : List Warning) (heading next_heading line : List ℕ) (served next_served : Bool) (others : ℕ) (lines rest behind : List (List ℕ)) (warning : Option Warning) →
    lines ≡ line ∷ rest →
    all ++ line_warnings heading served others lines ≡ line_warnings [] false 0 text →
    behind ≡ rest →
    warning ≡ line_warning heading served (others + 1) line behind →
    new ≡ all ++ listed warning →
    next_heading ≡ heading_behind heading (keyword line) →
    next_served ≡ (served || is_front (keyword line)) →
    new ++ line_warnings next_heading next_served (others + 1) rest ≡ line_warnings [] false 0 text
told_next text all new heading next_heading line served next_served others lines rest behind warning lines_are told behind_is warning_is new_is heading_is served_is =
    ap (λ l. l ++ line_warnings next_heading next_served (others + 1) rest) new_is
    ∙ (append_assoc all (listed warning) (line_warnings next_heading next_served (others + 1) rest)
    ∙ (ap (λ w. all ++ (listed w ++ line_warnings next_heading next_served (others + 1) rest)) (warning_is ∙ ap (λ b. line_warning heading served (others + 1) line b) behind_is)
    ∙ (ap (λ h. all ++ (listed (line_warning heading served (others + 1) line rest) ++ line_warnings h next_served (others + 1) rest)) heading_is
    ∙ (ap (λ s. all ++ (listed (line_warning heading served (others + 1) line rest) ++ line_warnings (heading_behind heading (keyword line)) s (others + 1) rest)) served_is
    ∙ (ap (λ l. all ++ line_warnings heading served others l) (sym lines_are) ∙ told)))))
