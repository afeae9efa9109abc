-- The line that is held.
use Rattle.std.proofs.Common.{◌≡◌, ℕ, Bool, true, false, cond, Option, Some, None, List, ◌++◌, length, length-append, nat_le, refl, sym, ap, ◌∙◌, arith}
use Rattle.std.proofs.lemmas.Bool.Decides.{nat_tests}
use Rattle.base_lines.specs.Line.{held, held_with, longest_line}

longer : (line more : List ℕ) (fits : Bool) → nat_le (length line) longest_line ≡ fits → held (line ++ more) ≡ held_with (cond fits (Some line) None) more
longer line more true h = refl
longer line more false h =
    let long : nat_le (length (line ++ more)) longest_line ≡ false = ap (λ n. nat_le n longest_line) (length-append line more) ∙ grind (arith, nat_tests) in
    ap (λ v. cond v (Some (line ++ more)) None) long

-- the line that is held grows as the line does
pub held-append : (line more : List ℕ) → held (line ++ more) ≡ held_with (held line) more
held-append line more = longer line more (nat_le (length line) longest_line) refl

-- what stood for a line stands for the longer line
pub held_with-stands : (old new : Option (List ℕ)) (line more : List ℕ) → new ≡ held_with old more → old ≡ held line → new ≡ held (line ++ more)
held_with-stands old new line more exact stands = exact ∙ ap (λ l. held_with l more) stands ∙ sym (held-append line more)
