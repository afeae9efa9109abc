-- A text that grows by one piece after the other.
use Rattle.std.proofs.Common.{◌≡◌, ℕ, List, ◌++◌, ap, ◌∙◌, append_assoc}

-- by one piece more
pub joined : {middle after : List ℕ} (before first second : List ℕ) → middle ≡ before ++ first → after ≡ middle ++ second → after ≡ before ++ (first ++ second)
joined before first second early late = late ∙ ap (λ text. text ++ second) early ∙ append_assoc before first second
