-- What a port's bytes are before and after a call.
use Rattle.std.specs.Prelude.{◌≡◌, ℕ, ◌+◌, ◌%◌, ◌^◌, List, [], ◌++◌}

-- where the port tells its bytes, what it has taken has grown by the piece
abbrev pub Grows : Type 0 → List ℕ → List ℕ → List ℕ → Type 0
Grows told before after piece = told → after ≡ before ++ piece

-- where the port tells its bytes, what was left before is the piece and what is left after
abbrev pub Takes : Type 0 → List ℕ → List ℕ → List ℕ → Type 0
Takes told before after piece = told → before ≡ piece ++ after

-- where the port tells its bytes, none is left
abbrev pub IsAtEnd : Type 0 → List ℕ → Type 0
IsAtEnd told left = told → left ≡ []

-- one failure more, counted modulo 2 ^ 64
abbrev pub IsOneMore : ℕ → ℕ → Type 0
IsOneMore before after = after ≡ (before + 1) % 2 ^ 64

-- the whole begins with the prefix
abbrev pub IsPrefix : List ℕ → List ℕ → Type 0
IsPrefix prefix whole = (rest : List ℕ) × (whole ≡ prefix ++ rest)

-- where the port tells its bytes, what it has taken has grown by a prefix of the piece
abbrev pub GrowsInPart : Type 0 → List ℕ → List ℕ → List ℕ → Type 0
GrowsInPart told before after piece = (prefix : List ℕ) × IsPrefix prefix piece × Grows told before after prefix
