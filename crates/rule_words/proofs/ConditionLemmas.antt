-- Conditions as terms are read one after another: a conjunction that has some, and the disjunction that has some conjunctions.
use Rattle.std.proofs.Common.{◌≡◌, ◌∙◌, ℕ, false, Result, Ok, Err, List, [], ◌∷◌, ◌++◌, refl, sym, ap, append_assoc, subst}
use Rattle.std.specs.Prelude.{IsErrAnd}
use Rattle.rule_model.specs.Reading.{◌>>=◌, Fails}
use Rattle.rule_model.specs.declared.criteria.Acl.{Acl}
use Rattle.rule_model.specs.declared.faults.Fault.{Fault}
use Rattle.rule_model.specs.declared.faults.ReadError.{ReadError}
use Rattle.rule_model.specs.declared.faults.ReadError.TheVariants.{OutOfMemory, Wrong}
use Rattle.rule_model.specs.declared.rules.Term.{Term}
use Rattle.rule_words.specs.declared.conditions.Conjunction.{Conjunction}
use Rattle.rule_words.specs.Conditions.{condition_of, Place, First, Next, is_or}
use Rattle.rule_words.specs.Sentences.{Begins, term_of}
use Rattle.rule_words.proofs.SentenceLemmas.{condition_of-rest, goes_on, rest_of, rest_of-later, rest_of-term, with_term}

-- ---- a conjunction

-- where the next word of a conjunction stands that has these terms
abbrev pub place_behind : List Term → Place
place_behind [] = First
place_behind (term ∷ terms) = Next

-- with these terms in front
abbrev pub with_terms : List Term → Result (List (List Term)) Fault → Result (List (List Term)) Fault
with_terms prefix (Ok []) = Ok []
with_terms prefix (Ok (terms ∷ more)) = Ok ((prefix ++ terms) ∷ more)
with_terms prefix (Err fault) = Err fault

-- the terms so far, and what goes on behind them
abbrev pub conjoined : List ℕ → List Acl → List Term → List (List ℕ) → Result (List (List Term)) Fault
conjoined own acls terms words = with_terms terms (rest_of own acls (place_behind terms) words)

pub conjoined-none : (own : List ℕ) (acls : List Acl) (words : List (List ℕ)) → conjoined own acls [] words ≡ condition_of own acls words
conjoined-none own acls words = by_read (rest_of own acls First words) ∙ sym (condition_of-rest own acls words)
  where
    by_read : (read : Result (List (List Term)) Fault) → with_terms [] read ≡ read
    by_read (Ok []) = refl
    by_read (Ok (terms ∷ more)) = refl
    by_read (Err fault) = refl

with_terms-more : (prefix : List Term) (term : Term) (read : Result (List (List Term)) Fault) → with_terms prefix (with_term term read) ≡ with_terms (prefix ++ term ∷ []) read
with_terms-more prefix term (Ok []) = refl
with_terms-more prefix term (Ok (terms ∷ more)) = ap (λ ts. Ok (ts ∷ more)) (sym (append_assoc prefix (term ∷ []) terms))
with_terms-more prefix term (Err fault) = refl

-- behind a first term another may follow
place_behind-more : (prefix : List Term) (term : Term) → place_behind (prefix ++ term ∷ []) ≡ Next
place_behind-more [] term = refl
place_behind-more (other ∷ prefix) term = refl

-- a term that has to follow, or may, is the same
rest_of-either : (own : List ℕ) (acls : List Acl) (prefix : List Term) (word : List ℕ) (words : List (List ℕ)) → is_or word ≡ false
    → rest_of own acls (place_behind prefix) (word ∷ words) ≡ rest_of own acls First (word ∷ words)
rest_of-either own acls [] word words e = refl
rest_of-either own acls (term ∷ prefix) word words e = rest_of-later own acls Next word words e ∙ sym (rest_of-later own acls First word words e)

-- a term more was read
pub conjoined-term : (own : List ℕ) (acls : List Acl) (prefix new : List Term) (word : List ℕ) (left mid rest : List (List ℕ)) (term : Term) → left ≡ word ∷ mid → is_or word ≡ false
    → term_of own acls word mid ≡ Ok (term, rest) → new ≡ prefix ++ term ∷ [] → conjoined own acls new rest ≡ conjoined own acls prefix left
conjoined-term own acls prefix new word left mid rest term is e read more =
    ap (λ terms. conjoined own acls terms rest) more
    ∙ ap (λ place. with_terms (prefix ++ term ∷ []) (rest_of own acls place rest)) (place_behind-more prefix term)
    ∙ sym (with_terms-more prefix term (rest_of own acls Next rest))
    ∙ sym (ap (λ read. with_terms prefix (read >>= goes_on own acls)) read)
    ∙ sym (ap (with_terms prefix) (rest_of-either own acls prefix word mid e ∙ rest_of-term own acls word mid e))
    ∙ sym (ap (conjoined own acls prefix) is)

-- a term was refused
pub conjoined-refused : (own : List ℕ) (acls : List Acl) (prefix : List Term) (word : List ℕ) (left mid rest words : List (List ℕ)) (error : ReadError) (result : Result Conjunction ReadError)
    → left ≡ word ∷ mid → is_or word ≡ false → Fails error (term_of own acls word mid) → conjoined own acls prefix left ≡ condition_of own acls words
    → IsErrAnd result (λ told. told ≡ error) → Begins own acls result rest words
conjoined-refused own acls prefix word left mid rest words error (Ok read) is e fails gives same = absurd same
conjoined-refused own acls prefix word left mid rest words OutOfMemory (Err told) is e fails gives same = subst (λ error. Fails error (condition_of own acls words)) (sym same) tt
conjoined-refused own acls prefix word left mid rest words (Wrong fault) (Err told) is e fails gives same =
    subst (λ error. Fails error (condition_of own acls words)) (sym same) (
    sym gives
    ∙ ap (conjoined own acls prefix) is
    ∙ ap (with_terms prefix) (rest_of-either own acls prefix word mid e ∙ rest_of-term own acls word mid e)
    ∙ ap (λ read. with_terms prefix (read >>= goes_on own acls)) fails
    )

-- ---- a disjunction

-- what was read, with these conjunctions in front
abbrev pub behind : List (List Term) → Result (List (List Term)) Fault → Result (List (List Term)) Fault
behind prefix (Ok more) = Ok (prefix ++ more)
behind prefix (Err fault) = Err fault
