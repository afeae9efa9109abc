-- What serving the lines of a text writes.
use Rattle.std.specs.Prelude.{◌≡◌, ◌⊎◌, ◌^◌, ℕ, Option, List, [], ◌∷◌, ◌++◌, length}
use Rattle.base_lines.specs.Parts.{parts, is_line_end}
use Rattle.base_lines.specs.Line.{held}
use Rattle.base_lines.specs.Chain.{Chain}

-- the most reads that a service makes: a reader that hasn't ended by then is a fault
abbrev pub most_turns : ℕ
most_turns = 2 ^ 40

-- a line is answered as it is held: none, where it is too long
abbrev pub Serves : {S : Type 0} → (S → Option (List ℕ) → List ℕ → S → Type 0) → S → List ℕ → List ℕ → S → Type 0
Serves says old line text new = says old (held line) text new

-- from `old`, the lines of a text may write this output and leave `new`
abbrev pub ServesAll : {S : Type 0} → (S → Option (List ℕ) → List ℕ → S → Type 0) → S → List ℕ → List ℕ → S → Type 0
ServesAll says old whole output new = Chain (Serves says) old (parts is_line_end whole) output new

-- so many of the text's lines were served, with this output; the next one is held, and these stand behind it
pub record Progress {S : Type 0} (says : S → Option (List ℕ) → List ℕ → S → Type 0) (old : S) (whole : List ℕ) (later : List (List ℕ)) (line : Option (List ℕ)) (count : ℕ) (output : List ℕ) (now : S) : Type 0 where
  pub done : List (List ℕ)
  pub next : List ℕ
  pub lines : parts is_line_end whole ≡ done ++ next ∷ later
  pub counted : length done ≡ count
  pub held_is : line ≡ held next
  pub served : Chain (Serves says) old done output now

-- so many of the text's lines were served, and the output is theirs; nothing of the next line's answer, or that where it stopped and left `now`
pub record StopsAfter {S : Type 0} (says : S → Option (List ℕ) → List ℕ → S → Type 0) (stops : S → Option (List ℕ) → List ℕ → S → Type 0) (old : S) (whole : List ℕ) (count : ℕ) (output : List ℕ) (now : S) : Type 0 where
  pub done : List (List ℕ)
  pub next : List ℕ
  pub later : List (List ℕ)
  pub lines : parts is_line_end whole ≡ done ++ next ∷ later
  pub counted : length done ≡ count
  pub done_output : List ℕ
  pub between : S
  pub served : Chain (Serves says) old done done_output between
  pub prefix : List ℕ
  pub stopped : ((prefix ≡ []) × (now ≡ between)) ⊎ stops between (held next) prefix now
  pub output_is : output ≡ done_output ++ prefix
