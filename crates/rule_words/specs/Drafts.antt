-- A criterion that is being read, value by value.
use Rattle.std.specs.Prelude.{◌≡◌, ℕ, Bool, ◌&&◌, not, Option, None, option_map, option_and_then, Result, Ok, Err, List, ◌++◌, if◌then◌else◌}
use Rattle.rule_model.specs.declared.criteria.Criterion.{Criterion}
use Rattle.rule_model.specs.declared.criteria.Criterion.TheVariants as criteria
use Rattle.rule_model.specs.declared.criteria.Operator.{Operator}
use Rattle.rule_model.specs.declared.criteria.Pattern.{Pattern}
use Rattle.rule_model.specs.declared.faults.Fault.TheVariants.{BadCondition}
use Rattle.rule_model.specs.declared.faults.ReadError.{ReadError}
use Rattle.rule_model.specs.declared.faults.ReadError.TheVariants.{OutOfMemory, Wrong}
use Rattle.rule_words.specs.declared.criteria.Draft.{Draft}
use Rattle.rule_words.specs.declared.criteria.Draft.TheVariants.{Whole, Networks, Integers}
use Rattle.rule_words.specs.Values.{networks_of, patterns_of, has_value}
use Rattle.rule_words.specs.Conditions.{alone, at_least_one}

-- what was read, with this in front
abbrev pub ahead : {X : Type 0} → List X → Option (List X) → Option (List X)
ahead prefix read = option_map (λ more. prefix ++ more) read

-- the patterns of the words that are left, which begin with a value where one is lacking
abbrev pub patterns_left : Bool → Operator → List (List ℕ) → Option (List Pattern)
patterns_left lacks_value operator words = if lacks_value && not (has_value words) then None else patterns_of operator words

-- the criterion that a draft and the words that are left give
abbrev pub finished : Draft → List (List ℕ) → Option Criterion
finished (Whole criterion) words = alone criterion words
finished (Networks networks) words = option_map criteria.Source (option_and_then at_least_one (ahead networks (networks_of words)))
finished (Integers integers) words =
    option_map (criteria.Matches integers.measure)
    (option_and_then at_least_one (ahead integers.patterns (patterns_left integers.lacks_value integers.operator words)))

-- a word was taken, and all that follows gives what it gave before; or whatever follows, nothing is given
abbrev pub GoesOn : {X Y : Type 0} → Result Y ReadError → (List (List ℕ) → Option X) → (List (List ℕ) → Option X) → Type 0
GoesOn (Ok _) before after = (words : List (List ℕ)) → after words ≡ before words
GoesOn (Err OutOfMemory) before after = Unit {0}
GoesOn (Err (Wrong fault)) before after = (fault ≡ BadCondition) × ((words : List (List ℕ)) → before words ≡ None)
