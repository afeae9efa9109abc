-- The terms of a condition, one after another: what stands before the next `or`, and what stands behind it.
use Rattle.std.proofs.Common.{◌≡◌, ◌∙◌, ℕ, ◌≤◌, Bool, true, false, cond, ◌||◌, Option, Some, None, Result, Ok, Err, List, [], ◌∷◌, drop, codes, length, refl, sym, ap, arith}
use Rattle.std.specs.Prelude.{ok_or, option_map, option_and_then, if◌then◌else◌}
use Rattle.std.specs.List.{slice_split, onto_first}
use Rattle.std.specs.Str.{bytes_eq}
use Rattle.rule_model.specs.Reading.{◌>>=◌}
use Rattle.rule_model.specs.declared.criteria.Acl.{Acl}
use Rattle.rule_model.specs.declared.criteria.Criterion.{Criterion}
use Rattle.rule_model.specs.declared.faults.Fault.{Fault}
use Rattle.rule_model.specs.declared.faults.Fault.TheVariants.{BadCondition}
use Rattle.rule_model.specs.declared.rules.Term.{Term}
use Rattle.rule_words.specs.TermNames.{subject_of}
use Rattle.rule_words.specs.Conditions.{criterion_of, criterion_with, criteria_of, declarations_of, declared, condition_of, terms_of, each, in_braces, Place, First, Next, Negated, Braced, is_or, is_opening, is_closing, is_negated}
use Rattle.rule_words.specs.Sentences.{closed, with_word, braced, stands_for, signed, behind_not, term_of}

abbrev pub first_of : List (List (List ℕ)) → List (List ℕ)
first_of [] = []
first_of (part ∷ parts) = part

abbrev pub others_of : List (List (List ℕ)) → List (List (List ℕ))
others_of [] = []
others_of (part ∷ parts) = parts

-- conjunctions of parts, behind the terms of the first
abbrev pub with_others : List ℕ → List Acl → Result (List Term) Fault → List (List (List ℕ)) → Result (List (List Term)) Fault
with_others own acls first parts = first >>= λ terms. each (terms_of own acls First) (others_of parts) >>= λ more. Ok (terms ∷ more)

-- a condition whose first conjunction goes on from a place
abbrev pub rest_of : List ℕ → List Acl → Place → List (List ℕ) → Result (List (List Term)) Fault
rest_of own acls place words = with_others own acls (terms_of own acls place (first_of (slice_split is_or words))) (slice_split is_or words)

-- with a term more in front
abbrev pub with_term : Term → Result (List (List Term)) Fault → Result (List (List Term)) Fault
with_term term (Ok []) = Ok []
with_term term (Ok (terms ∷ more)) = Ok ((term ∷ terms) ∷ more)
with_term term (Err fault) = Err fault

-- ---- the parts of words

first_of-onto : (word : List ℕ) (parts : List (List (List ℕ))) → first_of (onto_first word parts) ≡ word ∷ first_of parts
first_of-onto word [] = refl
first_of-onto word (part ∷ parts) = refl

others_of-onto : (word : List ℕ) (parts : List (List (List ℕ))) → others_of (onto_first word parts) ≡ others_of parts
others_of-onto word [] = refl
others_of-onto word (part ∷ parts) = refl

split_here : (word : List ℕ) (words : List (List ℕ)) → is_or word ≡ true → slice_split is_or (word ∷ words) ≡ [] ∷ slice_split is_or words
split_here word words e = ap (λ v. cond v ([] ∷ slice_split is_or words) (onto_first word (slice_split is_or words))) e

split_later : (word : List ℕ) (words : List (List ℕ)) → is_or word ≡ false → slice_split is_or (word ∷ words) ≡ onto_first word (slice_split is_or words)
split_later word words e = ap (λ v. cond v ([] ∷ slice_split is_or words) (onto_first word (slice_split is_or words))) e

-- the first part of words, and the others
first_later : (word : List ℕ) (words : List (List ℕ)) → is_or word ≡ false → first_of (slice_split is_or (word ∷ words)) ≡ word ∷ first_of (slice_split is_or words)
first_later word words e = ap first_of (split_later word words e) ∙ first_of-onto word (slice_split is_or words)

others_later : (word : List ℕ) (words : List (List ℕ)) → is_or word ≡ false → others_of (slice_split is_or (word ∷ words)) ≡ others_of (slice_split is_or words)
others_later word words e = ap others_of (split_later word words e) ∙ others_of-onto word (slice_split is_or words)

-- a condition from a place whose next word is no or
pub rest_of-later : (own : List ℕ) (acls : List Acl) (place : Place) (word : List ℕ) (words : List (List ℕ)) → is_or word ≡ false
    → rest_of own acls place (word ∷ words) ≡ with_others own acls (terms_of own acls place (word ∷ first_of (slice_split is_or words))) (slice_split is_or words)
rest_of-later own acls place word words e =
    ap (λ part. terms_of own acls place part >>= λ terms. each (terms_of own acls First) (others_of (slice_split is_or (word ∷ words))) >>= λ more. Ok (terms ∷ more)) (first_later word words e)
    ∙ ap (λ parts. terms_of own acls place (word ∷ first_of (slice_split is_or words)) >>= λ terms. each (terms_of own acls First) parts >>= λ more. Ok (terms ∷ more)) (others_later word words e)

-- and one whose next word is an or
pub rest_of-or : (own : List ℕ) (acls : List Acl) (place : Place) (word : List ℕ) (words : List (List ℕ)) → is_or word ≡ true
    → rest_of own acls place (word ∷ words) ≡ (terms_of own acls place [] >>= λ terms. condition_of own acls words >>= λ more. Ok (terms ∷ more))
rest_of-or own acls place word words e =
    ap (λ parts. with_others own acls (terms_of own acls place (first_of parts)) parts) (split_here word words e)

-- a whole condition goes on from its beginning
pub condition_of-rest : (own : List ℕ) (acls : List Acl) (words : List (List ℕ)) → condition_of own acls words ≡ rest_of own acls First words
condition_of-rest own acls [] = refl
condition_of-rest own acls (word ∷ words) = by_or (is_or word) refl
  where
    by_onto : (parts : List (List (List ℕ))) → each (terms_of own acls First) (onto_first word parts)
        ≡ with_others own acls (terms_of own acls First (first_of (onto_first word parts))) (onto_first word parts)
    by_onto [] = refl
    by_onto (part ∷ parts) = refl

    by_or : (v : Bool) → is_or word ≡ v → condition_of own acls (word ∷ words) ≡ rest_of own acls First (word ∷ words)
    by_or true e = ap (each (terms_of own acls First)) (split_here word words e) ∙ sym (rest_of-or own acls First word words e)
    by_or false e =
        ap (each (terms_of own acls First)) (split_later word words e) ∙ by_onto (slice_split is_or words)
        ∙ sym (ap (λ parts. with_others own acls (terms_of own acls First (first_of parts)) parts) (split_later word words e))

-- ---- braces

-- in braces a word more
braced_more : (own : List ℕ) (acls : List Acl) (word : List ℕ) (words : List (List ℕ)) (v : Bool) → is_or word ≡ false → is_closing word ≡ v
    → rest_of own acls Braced (word ∷ words) ≡ rest_of own acls (if v then Next else Braced) words
braced_more own acls word words v e f =
    rest_of-later own acls Braced word words e
    ∙ ap (λ w. with_others own acls (terms_of own acls (if w then Next else Braced) (first_of (slice_split is_or words))) (slice_split is_or words)) f

-- closed words, one after another
closed_or : (word : List ℕ) (words : List (List ℕ)) → is_or word ≡ true → closed (word ∷ words) ≡ None
closed_or word words e = ap (λ v. cond v None (cond (is_closing word) (Some ([], words)) (option_map (with_word word) (closed words)))) e

closed_here : (word : List ℕ) (words : List (List ℕ)) → is_or word ≡ false → is_closing word ≡ true → closed (word ∷ words) ≡ Some ([], words)
closed_here word words e f =
    ap (λ v. cond v None (cond (is_closing word) (Some ([], words)) (option_map (with_word word) (closed words)))) e
    ∙ ap (λ v. cond v (Some ([], words)) (option_map (with_word word) (closed words))) f

closed_later : (word : List ℕ) (words : List (List ℕ)) → is_or word ≡ false → is_closing word ≡ false → closed (word ∷ words) ≡ option_map (with_word word) (closed words)
closed_later word words e f =
    ap (λ v. cond v None (cond (is_closing word) (Some ([], words)) (option_map (with_word word) (closed words)))) e
    ∙ ap (λ v. cond v (Some ([], words)) (option_map (with_word word) (closed words))) f

-- where no brace closes, there is no condition
pub closed-none : (own : List ℕ) (acls : List Acl) (words : List (List ℕ)) → closed words ≡ None → rest_of own acls Braced words ≡ Err BadCondition
closed-none own acls [] none = refl
closed-none own acls (word ∷ words) none = by_or (closed-none own acls words) (is_or word) refl
  where
    by_later : (o : Option (List (List ℕ) × List (List ℕ))) → option_map (with_word word) o ≡ None → o ≡ None
    by_later None e = refl
    by_later (Some parts) e = cc

    by_closing : (closed words ≡ None → rest_of own acls Braced words ≡ Err BadCondition) → (v : Bool) → is_or word ≡ false → is_closing word ≡ v
        → rest_of own acls Braced (word ∷ words) ≡ Err BadCondition
    by_closing later true e f = let some = sym (closed_here word words e f) ∙ none in cc
    by_closing later false e f = braced_more own acls word words false e f ∙ later (by_later (closed words) (sym (closed_later word words e f) ∙ none))

    by_or : (closed words ≡ None → rest_of own acls Braced words ≡ Err BadCondition) → (v : Bool) → is_or word ≡ v → rest_of own acls Braced (word ∷ words) ≡ Err BadCondition
    by_or later true e = rest_of-or own acls Braced word words e
    by_or later false e = by_closing later (is_closing word) e refl

-- where one closes, what stands in the braces, and what goes on behind them
pub record IsClosed (own : List ℕ) (acls : List Acl) (words inner behind : List (List ℕ)) : Type 0 where
  pub inside : in_braces (first_of (slice_split is_or words)) ≡ inner
  pub outside : rest_of own acls Braced words ≡ rest_of own acls Next behind
  pub shorter : length behind ≤ length words

pub closed-some : (own : List ℕ) (acls : List Acl) (words inner behind : List (List ℕ)) → closed words ≡ Some (inner, behind) → IsClosed own acls words inner behind
closed-some own acls [] inner behind some = cc
closed-some own acls (word ∷ words) inner behind some = by_or (closed-some own acls words) (is_or word) refl
  where
    by_inside : (v : Bool) → is_or word ≡ false → is_closing word ≡ v
        → in_braces (first_of (slice_split is_or (word ∷ words))) ≡ cond v [] (word ∷ in_braces (first_of (slice_split is_or words)))
    by_inside v e f = ap in_braces (first_later word words e) ∙ ap (λ w. cond w [] (word ∷ in_braces (first_of (slice_split is_or words)))) f

    by_later : ((inner behind : List (List ℕ)) → closed words ≡ Some (inner, behind) → IsClosed own acls words inner behind) → is_or word ≡ false → is_closing word ≡ false
        → (o : Option (List (List ℕ) × List (List ℕ))) → closed words ≡ o → option_map (with_word word) o ≡ Some (inner, behind) → IsClosed own acls (word ∷ words) inner behind
    by_later later e f None is is_some = cc
    by_later later e f (Some parts) is is_some =
        let read = later parts.0 parts.1 is in
        let same : with_word word parts ≡ (inner, behind) = cc in
        let inner_is : word ∷ parts.0 ≡ inner = ap (λ pair. pair.0) same in
        let behind_is : parts.1 ≡ behind = ap (λ pair. pair.1) same in
        record {
          inside = by_inside false e f ∙ ap (λ ws. word ∷ ws) read.inside ∙ inner_is;
          outside = braced_more own acls word words false e f ∙ read.outside ∙ ap (rest_of own acls Next) behind_is;
          shorter = omega (arith, read.shorter, ap length behind_is);
        }

    by_closing : ((inner behind : List (List ℕ)) → closed words ≡ Some (inner, behind) → IsClosed own acls words inner behind) → (v : Bool) → is_or word ≡ false → is_closing word ≡ v
        → IsClosed own acls (word ∷ words) inner behind
    by_closing later true e f =
        let is = sym (closed_here word words e f) ∙ some in
        let pair : List (List ℕ) × List (List ℕ) = ([], words) in
        let same : pair ≡ (inner, behind) = cc in
        let inner_is : [] ≡ inner = ap (λ p. p.0) same in
        let behind_is : words ≡ behind = ap (λ p. p.1) same in
        record {
          inside = by_inside true e f ∙ inner_is;
          outside = braced_more own acls word words true e f ∙ ap (rest_of own acls Next) behind_is;
          shorter = omega (arith, ap length behind_is);
        }
    by_closing later false e f = by_later later e f (closed words) refl (sym (closed_later word words e f) ∙ some)

    by_or : ((inner behind : List (List ℕ)) → closed words ≡ Some (inner, behind) → IsClosed own acls words inner behind) → (v : Bool) → is_or word ≡ v → IsClosed own acls (word ∷ words) inner behind
    by_or later true e = let none = sym (closed_or word words e) ∙ some in cc
    by_or later false e = by_closing later (is_closing word) e refl

-- ---- a term

-- the only fault of a criterion
criterion_of-fault : (own : List ℕ) (words : List (List ℕ)) (fault : Fault) → criterion_of own words ≡ Err fault → fault ≡ BadCondition
criterion_of-fault own [] fault e = cc
criterion_of-fault own (name ∷ values) fault e = by_found (option_and_then (λ subject. criterion_with subject values) (subject_of own name)) e
  where
    by_found : (o : Option Criterion) → ok_or o BadCondition ≡ Err fault → fault ≡ BadCondition
    by_found None e = cc
    by_found (Some criterion) e = cc

-- a term in front of the terms of the first conjunction
with_term-prefix : (term : Term) (first : Result (List Term) Fault) (others : Result (List (List Term)) Fault)
    → ((first >>= λ terms. Ok (term ∷ terms)) >>= λ terms. others >>= λ more. Ok (terms ∷ more)) ≡ with_term term (first >>= λ terms. others >>= λ more. Ok (terms ∷ more))
with_term-prefix term (Err fault) others = refl
with_term-prefix term (Ok terms) (Err fault) = refl
with_term-prefix term (Ok terms) (Ok more) = refl

-- the terms that begin with what a word stands for
abbrev pub terms_from : List ℕ → List Acl → Bool → List ℕ → List (List ℕ) → Result (List Term) Fault
terms_from own acls negated word words = criteria_of own acls word words >>= λ criteria.
    terms_of own acls (if is_opening word then Braced else Next) words >>= λ terms. Ok (record { negated = negated; criteria = criteria } ∷ terms)

-- what an opening brace stands for
by_brace : (own : List ℕ) (acls : List Acl) (negated : Bool) (words : List (List ℕ)) (parts : Option (List (List ℕ) × List (List ℕ))) → closed words ≡ parts
    → with_others own acls (criterion_of own (in_braces (first_of (slice_split is_or words))) >>= λ criterion.
    terms_of own acls Braced (first_of (slice_split is_or words)) >>= λ terms. Ok (record { negated = negated; criteria = criterion ∷ [] } ∷ terms)) (slice_split is_or words)
    ≡ (ok_or parts BadCondition >>= λ inner. criterion_of own inner.0 >>= λ criterion. with_term (record { negated = negated; criteria = criterion ∷ [] }) (rest_of own acls Next inner.1))
by_brace own acls negated words None none = by_criterion (criterion_of own (in_braces (first_of (slice_split is_or words)))) refl
  where
    by_criterion : (read : Result Criterion Fault) → criterion_of own (in_braces (first_of (slice_split is_or words))) ≡ read
        → with_others own acls (read >>= λ criterion. terms_of own acls Braced (first_of (slice_split is_or words)) >>= λ terms.
        Ok (record { negated = negated; criteria = criterion ∷ [] } ∷ terms)) (slice_split is_or words) ≡ Err BadCondition
    by_criterion (Err fault) e = ap Err (criterion_of-fault own (in_braces (first_of (slice_split is_or words))) fault e)
    by_criterion (Ok criterion) e =
        with_term-prefix (record { negated = negated; criteria = criterion ∷ [] }) (terms_of own acls Braced (first_of (slice_split is_or words))) (each (terms_of own acls First) (others_of (slice_split is_or words)))
        ∙ ap (with_term (record { negated = negated; criteria = criterion ∷ [] })) (closed-none own acls words none)
by_brace own acls negated words (Some inner) some =
    let read = closed-some own acls words inner.0 inner.1 some in
    ap (λ ws. with_others own acls (criterion_of own ws >>= λ criterion. terms_of own acls Braced (first_of (slice_split is_or words)) >>= λ terms.
    Ok (record { negated = negated; criteria = criterion ∷ [] } ∷ terms)) (slice_split is_or words)) read.inside
    ∙ by_criterion read.outside (criterion_of own inner.0)
  where
    by_criterion : rest_of own acls Braced words ≡ rest_of own acls Next inner.1 → (read : Result Criterion Fault)
        → with_others own acls (read >>= λ criterion. terms_of own acls Braced (first_of (slice_split is_or words)) >>= λ terms.
        Ok (record { negated = negated; criteria = criterion ∷ [] } ∷ terms)) (slice_split is_or words)
        ≡ (read >>= λ criterion. with_term (record { negated = negated; criteria = criterion ∷ [] }) (rest_of own acls Next inner.1))
    by_criterion outside (Err fault) = refl
    by_criterion outside (Ok criterion) =
        with_term-prefix (record { negated = negated; criteria = criterion ∷ [] }) (terms_of own acls Braced (first_of (slice_split is_or words))) (each (terms_of own acls First) (others_of (slice_split is_or words)))
        ∙ ap (with_term (record { negated = negated; criteria = criterion ∷ [] })) outside

-- the steps of a term
abbrev one_criterion : Criterion × List (List ℕ) → List Criterion × List (List ℕ)
one_criterion read = (read.0 ∷ [], read.1)

abbrev and_left : List (List ℕ) → List Criterion → List Criterion × List (List ℕ)
and_left words criteria = (criteria, words)

abbrev as_term : Bool → List Criterion × List (List ℕ) → Term × List (List ℕ)
as_term negated read = (record { negated = negated; criteria = read.0 }, read.1)

abbrev pub goes_on : List ℕ → List Acl → Term × List (List ℕ) → Result (List (List Term)) Fault
goes_on own acls read = with_term read.0 (rest_of own acls Next read.1)

by_inner : (own : List ℕ) (acls : List Acl) (negated : Bool) (inner : List (List ℕ) × List (List ℕ)) (read : Result Criterion Fault)
    → (read >>= λ criterion. with_term (record { negated = negated; criteria = criterion ∷ [] }) (rest_of own acls Next inner.1))
    ≡ ((((read >>= λ criterion. let pair : Criterion × List (List ℕ) = (criterion, inner.1) in Ok pair) >>= λ read. Ok (one_criterion read)) >>= λ read. Ok (as_term negated read)) >>= goes_on own acls)
by_inner own acls negated inner (Err fault) = refl
by_inner own acls negated inner (Ok criterion) = refl

by_parts : (own : List ℕ) (acls : List Acl) (negated : Bool) (parts : Option (List (List ℕ) × List (List ℕ)))
    → (ok_or parts BadCondition >>= λ inner. criterion_of own inner.0 >>= λ criterion. with_term (record { negated = negated; criteria = criterion ∷ [] }) (rest_of own acls Next inner.1))
    ≡ ((((ok_or parts BadCondition >>= λ inner. criterion_of own inner.0 >>= λ criterion. let pair : Criterion × List (List ℕ) = (criterion, inner.1) in Ok pair) >>= λ read. Ok (one_criterion read))
    >>= λ read. Ok (as_term negated read)) >>= goes_on own acls)
by_parts own acls negated None = refl
by_parts own acls negated (Some inner) = by_inner own acls negated inner (criterion_of own inner.0)

-- the terms of a conjunction that go on with what a word stands for
signed-prefix : (own : List ℕ) (acls : List Acl) (negated : Bool) (word : List ℕ) (words : List (List ℕ))
    → with_others own acls (terms_from own acls negated word (first_of (slice_split is_or words))) (slice_split is_or words)
    ≡ (signed own acls negated word words >>= goes_on own acls)
unfolding criteria_of stands_for
signed-prefix own acls negated word words = by_refused (is_closing word || is_negated word || is_or word) (is_opening word)
  where
    first : List (List ℕ)
    first = first_of (slice_split is_or words)

    by_declared : (read : Result (List Criterion) Fault) → with_others own acls (read >>= λ criteria. terms_of own acls Next first >>= λ terms.
        Ok (record { negated = negated; criteria = criteria } ∷ terms)) (slice_split is_or words)
        ≡ (((read >>= λ criteria. Ok (and_left words criteria)) >>= λ read. Ok (as_term negated read)) >>= goes_on own acls)
    by_declared (Err fault) = refl
    by_declared (Ok criteria) = with_term-prefix (record { negated = negated; criteria = criteria }) (terms_of own acls Next first) (each (terms_of own acls First) (others_of (slice_split is_or words)))

    by_opened : (read : Result Criterion Fault) → with_others own acls ((read >>= λ criterion. Ok (criterion ∷ [])) >>= λ criteria. terms_of own acls Braced first >>= λ terms.
        Ok (record { negated = negated; criteria = criteria } ∷ terms)) (slice_split is_or words)
        ≡ with_others own acls (read >>= λ criterion. terms_of own acls Braced first >>= λ terms. Ok (record { negated = negated; criteria = criterion ∷ [] } ∷ terms)) (slice_split is_or words)
    by_opened (Err fault) = refl
    by_opened (Ok criterion) = refl

    by_refused : (refused opening : Bool) → with_others own acls ((if refused then Err BadCondition
        else (if opening then (criterion_of own (in_braces first) >>= λ criterion. Ok (criterion ∷ []))
        else declared (declarations_of acls word))) >>= λ criteria. terms_of own acls (if opening then Braced else Next) first >>= λ terms.
        Ok (record { negated = negated; criteria = criteria } ∷ terms)) (slice_split is_or words)
        ≡ (((if refused then Err BadCondition
        else (if opening then (braced own words >>= λ read. Ok (one_criterion read))
        else (declared (declarations_of acls word) >>= λ criteria. Ok (and_left words criteria)))) >>= λ read. Ok (as_term negated read)) >>= goes_on own acls)
    by_refused true opening = refl
    by_refused false false = by_declared (declared (declarations_of acls word))
    by_refused false true =
        by_opened (criterion_of own (in_braces first))
        ∙ by_brace own acls negated words (closed words) refl
        ∙ by_parts own acls negated (closed words)

-- an or stands for nothing
signed-or : (own : List ℕ) (acls : List Acl) (negated : Bool) (word : List ℕ) (words : List (List ℕ)) → is_or word ≡ true → signed own acls negated word words ≡ Err BadCondition
unfolding stands_for
signed-or own acls negated word words e = by_tests (is_closing word) (is_negated word) (is_or word) e
  where
    by_tests : (closing not or : Bool) → or ≡ true → ((if closing || not || or then Err BadCondition
        else (if is_opening word then (braced own words >>= λ read. Ok (one_criterion read))
        else (declared (declarations_of acls word) >>= λ criteria. Ok (and_left words criteria)))) >>= λ read. Ok (as_term negated read)) ≡ Err BadCondition
    by_tests true not or e = refl
    by_tests false true or e = refl
    by_tests false false true e = refl
    by_tests false false false e = cc

-- a condition that goes on with a term
pub rest_of-term : (own : List ℕ) (acls : List Acl) (word : List ℕ) (words : List (List ℕ)) → is_or word ≡ false
    → rest_of own acls First (word ∷ words) ≡ (term_of own acls word words >>= goes_on own acls)
unfolding term_of
rest_of-term own acls word words e = rest_of-later own acls First word words e ∙ by_not (bytes_eq word (codes "!"))
  where
    first : List (List ℕ)
    first = first_of (slice_split is_or words)

    rest : List ℕ
    rest = if is_negated word then drop 1 word else word

    by_next : (words : List (List ℕ)) → rest_of own acls Negated words ≡ (behind_not own acls words >>= goes_on own acls)
    by_next [] = refl
    by_next (next ∷ later) = by_or (is_or next) refl
      where
        by_or : (v : Bool) → is_or next ≡ v → rest_of own acls Negated (next ∷ later) ≡ (signed own acls true next later >>= goes_on own acls)
        by_or true f = rest_of-or own acls Negated next later f ∙ sym (ap (λ read. read >>= goes_on own acls) (signed-or own acls true next later f))
        by_or false f = rest_of-later own acls Negated next later f ∙ signed-prefix own acls true next later

    by_not : (v : Bool) → with_others own acls (if v then terms_of own acls Negated first else terms_from own acls (is_negated word) rest first) (slice_split is_or words)
        ≡ ((if v then behind_not own acls words else signed own acls (is_negated word) rest words) >>= goes_on own acls)
    by_not true = by_next words
    by_not false = signed-prefix own acls (is_negated word) rest words

-- no more words are left than there were
abbrev IsShorter : {X : Type 0} → Result (X × List (List ℕ)) Fault → List (List ℕ) → Type 0
IsShorter (Ok read) words = length read.1 ≤ length words
IsShorter (Err fault) words = Unit {0}

braced-shorter : (own : List ℕ) (acls : List Acl) (words : List (List ℕ)) → IsShorter (braced own words) words
braced-shorter own acls words = by_closed (closed words) refl
  where
    by_criterion : (inner : List (List ℕ) × List (List ℕ)) → length inner.1 ≤ length words → (read : Result Criterion Fault)
        → IsShorter (read >>= λ criterion. let pair : Criterion × List (List ℕ) = (criterion, inner.1) in Ok pair) words
    by_criterion inner shorter (Err fault) = tt
    by_criterion inner shorter (Ok criterion) = shorter

    by_closed : (parts : Option (List (List ℕ) × List (List ℕ))) → closed words ≡ parts
        → IsShorter (ok_or parts BadCondition >>= λ inner. criterion_of own inner.0 >>= λ criterion. let pair : Criterion × List (List ℕ) = (criterion, inner.1) in Ok pair) words
    by_closed None none = tt
    by_closed (Some inner) some = by_criterion inner (closed-some own acls words inner.0 inner.1 some).shorter (criterion_of own inner.0)

signed-shorter : (own : List ℕ) (acls : List Acl) (negated : Bool) (word : List ℕ) (words : List (List ℕ)) → IsShorter (signed own acls negated word words) words
unfolding stands_for
signed-shorter own acls negated word words = by_tests (is_closing word || is_negated word || is_or word) (is_opening word)
  where
    by_braced : (read : Result (Criterion × List (List ℕ)) Fault) → IsShorter read words → IsShorter ((read >>= λ read. Ok (one_criterion read)) >>= λ read. Ok (as_term negated read)) words
    by_braced (Err fault) shorter = tt
    by_braced (Ok read) shorter = shorter

    by_declared : (read : Result (List Criterion) Fault) → IsShorter ((read >>= λ criteria. Ok (and_left words criteria)) >>= λ read. Ok (as_term negated read)) words
    by_declared (Err fault) = tt
    by_declared (Ok criteria) = omega arith

    by_tests : (refused opening : Bool) → IsShorter ((if refused then Err BadCondition
        else (if opening then (braced own words >>= λ read. Ok (one_criterion read))
        else (declared (declarations_of acls word) >>= λ criteria. Ok (and_left words criteria)))) >>= λ read. Ok (as_term negated read)) words
    by_tests true opening = tt
    by_tests false true = by_braced (braced own words) (braced-shorter own acls words)
    by_tests false false = by_declared (declared (declarations_of acls word))

-- a term takes words from the beginning
pub term_of-shorter : (own : List ℕ) (acls : List Acl) (word : List ℕ) (words : List (List ℕ)) (term : Term) (left : List (List ℕ)) → term_of own acls word words ≡ Ok (term, left) → length left ≤ length words
unfolding term_of
term_of-shorter own acls word words term left e = by_term (term_of own acls word words) e (by_not (bytes_eq word (codes "!")) words)
  where
    by_next : (read : Result (Term × List (List ℕ)) Fault) (next : List ℕ) (later : List (List ℕ)) → IsShorter read later → IsShorter read (next ∷ later)
    by_next (Ok read) next later shorter = omega arith
    by_next (Err fault) next later shorter = tt

    by_not : (v : Bool) (words : List (List ℕ)) → IsShorter (if v then behind_not own acls words else signed own acls (is_negated word) (if is_negated word then drop 1 word else word) words) words
    by_not true [] = tt
    by_not true (next ∷ later) = by_next (signed own acls true next later) next later (signed-shorter own acls true next later)
    by_not false words = signed-shorter own acls (is_negated word) (if is_negated word then drop 1 word else word) words

    by_term : (read : Result (Term × List (List ℕ)) Fault) → read ≡ Ok (term, left) → IsShorter read words → length left ≤ length words
    by_term (Err fault) e shorter = cc
    by_term (Ok read) e shorter =
        let pair : Term × List (List ℕ) = (term, left) in
        let same : read ≡ pair = cc in
        omega (arith, shorter, ap (λ p. length p.1) same)
