-- Work on one state, an item at a time, each item with a text.
use Rattle.std.specs.Prelude.{◌≡◌, ℕ, List, [], ◌∷◌, ◌++◌, length}

-- one after another: each from the state that the one before left, and their texts joined
abbrev pub Chain : {S X : Type 0} → (S → X → List ℕ → S → Type 0) → S → List X → List ℕ → S → Type 0
Chain step old [] text new = (text ≡ []) × (new ≡ old)
Chain {S} step old (x ∷ xs) text new = (first : List ℕ) × (mid : S) × (rest : List ℕ) × step old x first mid × Chain step mid xs rest new × (text ≡ first ++ rest)

-- so many of the items are done, with this text, and these are left
pub record DoesUpTo {S X : Type 0} (step : S → X → List ℕ → S → Type 0) (old : S) (items left : List X) (count : ℕ) (text : List ℕ) (now : S) : Type 0 where
  pub done : List X
  pub items_are : items ≡ done ++ left
  pub counted : length done ≡ count
  pub chain : Chain step old done text now

-- so many of the items are done, and the text is theirs and a prefix of what the next one could have written as it led to `new`
pub record StopsIn {S X : Type 0} (step : S → X → List ℕ → S → Type 0) (old : S) (items : List X) (count : ℕ) (text : List ℕ) (new : S) : Type 0 where
  pub done : List X
  pub next : X
  pub later : List X
  pub items_are : items ≡ done ++ next ∷ later
  pub counted : length done ≡ count
  pub done_text : List ℕ
  pub between : S
  pub chain : Chain step old done done_text between
  pub prefix : List ℕ
  pub unwritten : List ℕ
  pub could : step between next (prefix ++ unwritten) new
  pub text_is : text ≡ done_text ++ prefix
