-- Criteria and conditions, as the words of a line say them.
use Rattle.std.specs.Prelude.{ℕ, Bool, true, false, ◌||◌, ◌==◌, Option, Some, None, ok_or, option_map, option_and_then, Result, Ok, Err, List, [], ◌∷◌, ◌++◌, map, drop, codes, if◌then◌else◌}
use Rattle.std.specs.List.{filter, slice_split}
use Rattle.std.specs.Str.{bytes_eq}
use Rattle.rule_model.specs.Reading.{◌>>=◌}
use Rattle.rule_model.specs.declared.criteria.Acl.{Acl}
use Rattle.rule_model.specs.declared.criteria.Criterion.{Criterion}
use Rattle.rule_model.specs.declared.criteria.Criterion.TheVariants as criteria
use Rattle.rule_model.specs.declared.criteria.Measure.TheVariants as measures
use Rattle.rule_model.specs.declared.criteria.Operator.TheVariants.{Eq}
use Rattle.rule_model.specs.declared.faults.Fault.{Fault}
use Rattle.rule_model.specs.declared.faults.Fault.TheVariants.{BadCondition, UnknownAcl}
use Rattle.rule_model.specs.declared.rules.Term.{Term}
use Rattle.rule_words.specs.declared.term_names.Subject.{Subject}
use Rattle.rule_words.specs.declared.term_names.Subject.TheVariants.{Always, IsTracked, Source, Integer}
use Rattle.rule_words.specs.TermNames.{subject_of}
use Rattle.rule_words.specs.Values.{networks_of, patterns_of}

-- ---- criteria

-- without values
abbrev pub alone : {X : Type 0} → X → List (List ℕ) → Option X
alone x [] = Some x
alone x (word ∷ words) = None

abbrev pub at_least_one : {X : Type 0} → List X → Option (List X)
at_least_one [] = None
at_least_one (x ∷ xs) = Some (x ∷ xs)

-- what is asked, with its values
abbrev pub criterion_with : Subject → List (List ℕ) → Option Criterion
criterion_with (Always value) words = alone (criteria.Always value) words
criterion_with (IsTracked slot) words = alone (criteria.IsTracked slot) words
criterion_with Source words = option_map criteria.Source (option_and_then at_least_one (networks_of words))
criterion_with (Integer measure) words = option_map (criteria.Matches measure) (option_and_then at_least_one (patterns_of Eq words))

-- a name and its values, in the section of this name
abbrev pub criterion_of : List ℕ → List (List ℕ) → Result Criterion Fault
criterion_of own [] = Err BadCondition
criterion_of own (name ∷ values) = ok_or (option_and_then (λ subject. criterion_with subject values) (subject_of own name)) BadCondition

-- the tables of which a criterion reads, by their sections' names
abbrev pub tables_of : Criterion → List (List ℕ)
tables_of (criteria.Matches (measures.Source table fetch) patterns) = table ∷ []
tables_of _ = []

-- ---- ACLs

-- those that are there always
abbrev pub built_in : List Acl
built_in =
    record { name = codes "TRUE"; criterion = criteria.Always true }
    ∷ record { name = codes "FALSE"; criterion = criteria.Always false }
    ∷ []

-- the criteria of all declarations of a name, in order
abbrev pub declarations_of : List Acl → List ℕ → List Criterion
declarations_of acls name = map (λ (acl : Acl). acl.criterion) (filter (λ acl. bytes_eq acl.name name) (built_in ++ acls))

-- ---- terms

abbrev pub is_or : List ℕ → Bool
is_or word = bytes_eq word (codes "or") || bytes_eq word (codes "||")

abbrev pub is_opening : List ℕ → Bool
is_opening word = bytes_eq word (codes "{")

abbrev pub is_closing : List ℕ → Bool
is_closing word = bytes_eq word (codes "}")

-- whether a word begins with !
abbrev pub is_negated : List ℕ → Bool
is_negated [] = false
is_negated (b ∷ bs) = b == 33

-- the words up to the closing brace
abbrev pub in_braces : List (List ℕ) → List (List ℕ)
in_braces [] = []
in_braces (word ∷ words) = if is_closing word then [] else word ∷ in_braces words

-- the declarations of an ACL, one at least
abbrev pub declared : List Criterion → Result (List Criterion) Fault
declared criteria = ok_or (at_least_one criteria) UnknownAcl

-- the criteria that a word stands for, with the words behind it: an opening brace and what stands in it, or an ACL's name
unfoldable pub criteria_of : List ℕ → List Acl → List ℕ → List (List ℕ) → Result (List Criterion) Fault
criteria_of own acls word words =
    if is_closing word || is_negated word || is_or word then Err BadCondition
    else (if is_opening word then (criterion_of own (in_braces words) >>= λ criterion. Ok (criterion ∷ []))
    else declared (declarations_of acls word))

-- where a word of a conjunction stands: where a term has to begin, where one may, behind a !, or in braces
pub data Place : Type 0 where
  First : Place
  Next : Place
  Negated : Place
  Braced : Place

-- the terms of words that stand there
abbrev pub terms_of : List ℕ → List Acl → Place → List (List ℕ) → Result (List Term) Fault
terms_of own acls Next [] = Ok []
terms_of own acls place [] = Err BadCondition
terms_of own acls Braced (word ∷ words) = terms_of own acls (if is_closing word then Next else Braced) words
terms_of own acls Negated (word ∷ words) = do
  criteria ← criteria_of own acls word words
  terms ← terms_of own acls (if is_opening word then Braced else Next) words
  Ok (record { negated = true; criteria = criteria } ∷ terms)
terms_of own acls place (word ∷ words) =
    if bytes_eq word (codes "!") then terms_of own acls Negated words
    else (let rest = if is_negated word then drop 1 word else word in (do
      criteria ← criteria_of own acls rest words
      terms ← terms_of own acls (if is_opening rest then Braced else Next) words
      Ok (record { negated = is_negated word; criteria = criteria } ∷ terms)))

-- each in order; the first fault is that of all
abbrev pub each : {X Y : Type 0} → (X → Result Y Fault) → List X → Result (List Y) Fault
each read [] = Ok []
each read (x ∷ xs) = read x >>= λ y. each read xs >>= λ ys. Ok (y ∷ ys)

-- a disjunction of conjunctions, which are parted by or
abbrev pub condition_of : List ℕ → List Acl → List (List ℕ) → Result (List (List Term)) Fault
condition_of own acls words = each (terms_of own acls First) (slice_split is_or words)
