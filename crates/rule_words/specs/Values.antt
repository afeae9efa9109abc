-- The values of a criterion.
use Rattle.std.specs.Prelude.{ℕ, ◌-◌, ◌^◌, Bool, false, Option, Some, None, is_none, option_map, option_and_then, List, [], ◌∷◌, codes, if◌then◌else◌}
use Rattle.base_lines.specs.Number.{number_of}
use Rattle.base_lines.specs.Parts.{parts, is_byte}
use Rattle.rule_addresses.specs.declared.address.Network.{Network}
use Rattle.rule_addresses.specs.Addresses.{network_of}
use Rattle.rule_model.specs.declared.criteria.Operator.{Operator}
use Rattle.rule_model.specs.declared.criteria.Operator.TheVariants.{Eq, Ge, Gt, Le, Lt}
use Rattle.rule_model.specs.declared.criteria.Pattern.{Pattern}
use Rattle.rule_model.specs.declared.criteria.Pattern.TheVariants.{Compare, Between}
use Rattle.rule_words.specs.TermNames.{named}

-- both, or nothing
abbrev pub joined : {X : Type 0} → Option X → Option (List X) → Option (List X)
joined (Some x) (Some xs) = Some (x ∷ xs)
joined (Some x) None = None
joined None xs = None

-- each word is a network
abbrev pub networks_of : List (List ℕ) → Option (List Network)
networks_of [] = Some []
networks_of (word ∷ words) = joined (network_of word) (networks_of words)

-- ---- integers

abbrev pub operators : List (List ℕ × Operator)
operators = (codes "eq", Eq) ∷ (codes "ge", Ge) ∷ (codes "gt", Gt) ∷ (codes "le", Le) ∷ (codes "lt", Lt) ∷ []

unfoldable pub operator_of : List ℕ → Option Operator
operator_of word = named word operators

-- a bound that may be left out
abbrev pub bound_of : List ℕ → ℕ → Option ℕ
bound_of [] default = Some default
bound_of (b ∷ bs) default = number_of (b ∷ bs)

-- a:b, a: and :b
unfoldable pub range_of : List ℕ → List ℕ → Option Pattern
range_of [] [] = None
range_of low high = option_and_then (λ a. option_map (Between a) (bound_of high (2 ^ 64 - 1))) (bound_of low 0)

-- a number, or under eq a range
abbrev pub pattern_of_parts : Operator → List (List ℕ) → Option Pattern
pattern_of_parts operator (number ∷ []) = option_map (Compare operator) (number_of number)
pattern_of_parts Eq (low ∷ high ∷ []) = range_of low high
pattern_of_parts operator _ = None

unfoldable pub pattern_of : Operator → List ℕ → Option Pattern
pattern_of operator word = pattern_of_parts operator (parts (is_byte 58) word)

-- whether a value comes next
abbrev pub has_value : List (List ℕ) → Bool
has_value [] = false
has_value (word ∷ words) = is_none (operator_of word)

-- an operator holds for the values up to the next one, and has one at least
abbrev pub patterns_of : Operator → List (List ℕ) → Option (List Pattern)
patterns_of operator [] = Some []
patterns_of operator (word ∷ words) = elim (operator_of word) [
  | None ↦ joined (pattern_of operator word) (patterns_of operator words)
  | Some next ↦ if has_value words then patterns_of next words else None
]
