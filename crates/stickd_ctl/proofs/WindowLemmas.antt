-- What is shown of lines, line by line.
use Rattle.std.proofs.Common.{◌≡◌, ◌<◌, ◌+◌, ◌-◌, ◌∙◌, ℕ, suc, List, ◌∷◌, ◌++◌, take, sym, ap, append_assoc, arith}
use Rattle.std.specs.List.{flat_map}
use Rattle.stickd_ctl.specs.Windows.{cut_line}

-- one more line is shown
pub one_more : (columns most place : ℕ) (text after line whole : List ℕ) (lines rest : List (List ℕ))
    → place < most → lines ≡ line ∷ rest → after ≡ text ++ cut_line columns line
    → text ++ flat_map (cut_line columns) (take (most - place) lines) ≡ whole
    → after ++ flat_map (cut_line columns) (take (most - (place + 1)) rest) ≡ whole
one_more columns most place text after line whole lines rest below is step left =
    let some : most - place ≡ suc (most - (place + 1)) = omega (arith, below) in
    ap (λ shown. shown ++ flat_map (cut_line columns) (take (most - (place + 1)) rest)) step
    ∙ append_assoc text (cut_line columns line) (flat_map (cut_line columns) (take (most - (place + 1)) rest))
    ∙ sym (ap (λ n. text ++ flat_map (cut_line columns) (take n (line ∷ rest))) some)
    ∙ sym (ap (λ all. text ++ flat_map (cut_line columns) (take (most - place) all)) is)
    ∙ left
