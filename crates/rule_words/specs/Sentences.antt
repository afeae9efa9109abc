-- A condition that is being read, term by term: what a term takes of the words of a line.
use Rattle.std.specs.Prelude.{◌≡◌, ℕ, Bool, true, ◌||◌, Option, Some, None, ok_or, option_map, Result, Ok, Err, List, [], ◌∷◌, drop, codes, if◌then◌else◌}
use Rattle.std.specs.Str.{bytes_eq}
use Rattle.rule_model.specs.Reading.{◌>>=◌, Fails}
use Rattle.rule_model.specs.declared.criteria.Acl.{Acl}
use Rattle.rule_model.specs.declared.criteria.Criterion.{Criterion}
use Rattle.rule_model.specs.declared.faults.Fault.{Fault}
use Rattle.rule_model.specs.declared.faults.Fault.TheVariants.{BadCondition}
use Rattle.rule_model.specs.declared.faults.ReadError.{ReadError}
use Rattle.rule_model.specs.declared.rules.Term.{Term}
use Rattle.rule_words.specs.declared.conditions.Conjunction.{Conjunction}
use Rattle.rule_words.specs.Conditions.{criterion_of, declarations_of, declared, condition_of, is_or, is_opening, is_closing, is_negated}

abbrev pub with_word : List ℕ → List (List ℕ) × List (List ℕ) → List (List ℕ) × List (List ℕ)
with_word word parts = (word ∷ parts.0, parts.1)

-- the words up to a closing brace and those behind it, where one stands before the next or
abbrev pub closed : List (List ℕ) → Option (List (List ℕ) × List (List ℕ))
closed [] = None
closed (word ∷ words) =
    if is_or word then None
    else (if is_closing word then Some ([], words)
    else option_map (with_word word) (closed words))

-- a criterion in braces, and the words behind it
abbrev pub braced : List ℕ → List (List ℕ) → Result (Criterion × List (List ℕ)) Fault
braced own words = ok_or (closed words) BadCondition >>= λ parts. criterion_of own parts.0 >>= λ criterion. Ok (criterion, parts.1)

-- the criteria that a word stands for, and the words behind them
unfoldable pub stands_for : List ℕ → List Acl → List ℕ → List (List ℕ) → Result (List Criterion × List (List ℕ)) Fault
stands_for own acls word words =
    if is_closing word || is_negated word || is_or word then Err BadCondition
    else (if is_opening word then (braced own words >>= λ read. Ok (read.0 ∷ [], read.1))
    else (declared (declarations_of acls word) >>= λ criteria. Ok (criteria, words)))

abbrev pub signed : List ℕ → List Acl → Bool → List ℕ → List (List ℕ) → Result (Term × List (List ℕ)) Fault
signed own acls negated word words = stands_for own acls word words >>= λ read. Ok (record { negated = negated; criteria = read.0 }, read.1)

-- behind a ! of its own
abbrev pub behind_not : List ℕ → List Acl → List (List ℕ) → Result (Term × List (List ℕ)) Fault
behind_not own acls [] = Err BadCondition
behind_not own acls (word ∷ words) = signed own acls true word words

-- a term that begins with a word, and the words behind it
unfoldable pub term_of : List ℕ → List Acl → List ℕ → List (List ℕ) → Result (Term × List (List ℕ)) Fault
term_of own acls word words =
    if bytes_eq word (codes "!") then behind_not own acls words
    else signed own acls (is_negated word) (if is_negated word then drop 1 word else word) words

-- what is answered is what reading gives, and these words are left
abbrev pub ReadsTo : {X : Type 0} → Result X ReadError → List (List ℕ) → Result (X × List (List ℕ)) Fault → Type 0
ReadsTo (Ok x) left read = read ≡ Ok (x, left)
ReadsTo (Err error) left read = Fails error read

-- the condition is this conjunction and, unless it is the last one, that of the words that are left
abbrev pub Begins : List ℕ → List Acl → Result Conjunction ReadError → List (List ℕ) → List (List ℕ) → Type 0
Begins own acls (Ok read) left words =
    condition_of own acls words ≡ (if read.is_last then Ok (read.terms ∷ []) else (condition_of own acls left >>= λ more. Ok (read.terms ∷ more)))
Begins own acls (Err error) left words = Fails error (condition_of own acls words)
