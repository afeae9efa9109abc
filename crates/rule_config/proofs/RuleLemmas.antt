-- The two rules that limit, as the words of their lines say them.
use Rattle.std.proofs.Common.{◌≡◌, ◌∙◌, refl, sym, ap, ℕ, Bool, true, false, ◌&&◌, if◌then◌else◌, nat_lt, ◌^◌, Some, None, Ok, List, [], ◌∷◌, codes}
use Rattle.std.specs.Str.{all_ascii_digits, bytes_eq}
use Rattle.std.specs.Str.Parse.{digits_value}
use Rattle.base_lines.specs.Words.{is_some_text}
use Rattle.std.specs.Char.{is_ascii_digit}
use Rattle.std.proofs.lemmas.Bool.{false≢true}
use Rattle.std.proofs.lemmas.Slice.Eq.{bytes_eq-Decides}
use Rattle.base_lines.specs.Number.{number_of}
use Rattle.base_lines.specs.Parts.{first_part, is_byte, other_parts, parts}
use Rattle.rule_model.specs.declared.criteria.Acl.{Acl}
use Rattle.rule_words.specs.Conditions.{criteria_of}
use Rattle.rule_words.specs.TermNames.{fetch_of, on_slot, plain_subject, slot_subject, subject_of}
use Rattle.rule_words.specs.Values.{operator_of, pattern_of}
use Rattle.rule_eval.specs.Limit.{refusing_rule, tracking_rule}
use Rattle.rule_config.specs.Actions.{action_of, key_of, rule_of, rule_with, table_named, track_of, tracked_slot}

both : (a b : Bool) → (a && b) ≡ true → (a ≡ true) × (b ≡ true)
both true b is = (refl, is)
both false b is = absurd (false≢true is)

-- ---- words that are numbers

some_if : (test : Bool) (x y : ℕ) → (if test then Some x else None) ≡ Some y → test ≡ true
some_if true x y is = refl
some_if false x y is = cc

digits : (number : List ℕ) (limit : ℕ) → number_of number ≡ Some limit → all_ascii_digits number ≡ true
unfolding number_of
digits number limit is =
    let test : (is_some_text number && all_ascii_digits number && nat_lt (digits_value 10 number) (2 ^ 64)) ≡ true = some_if _ _ _ is in
    middle (is_some_text number) (all_ascii_digits number) (nat_lt (digits_value 10 number) (2 ^ 64)) test
  where
    middle : (a b c : Bool) → (a && b && c) ≡ true → b ≡ true
    middle true true c is = refl
    middle true false c is = absurd (false≢true is)
    middle false b c is = absurd (false≢true is)

-- a text of digits is no word that begins with another byte
not_word : (number : List ℕ) (c : ℕ) (cs : List ℕ) → all_ascii_digits number ≡ true → is_ascii_digit c ≡ false → bytes_eq number (c ∷ cs) ≡ false
not_word number c cs digits other = by (bytes_eq number (c ∷ cs)) refl
  where
    by : (same : Bool) → bytes_eq number (c ∷ cs) ≡ same → same ≡ false
    by false is = refl
    by true is =
        let word : number ≡ c ∷ cs = (bytes_eq-Decides number (c ∷ cs)).0 is in
        absurd (false≢true (sym (ap (λ first. first && all_ascii_digits cs) other) ∙ ap all_ascii_digits (sym word) ∙ digits))

left_false : (a : Bool) → (a && true) ≡ false → a ≡ false
left_false true is = is
left_false false is = refl

no_colon : (b : ℕ) → is_ascii_digit b ≡ true → is_byte 58 b ≡ false
no_colon b digit = left_false (is_byte 58 b) (not_word (b ∷ []) 58 [] (ap (λ first. first && true) digit) refl)

first_whole : (number : List ℕ) → all_ascii_digits number ≡ true → first_part (is_byte 58) number ≡ number
first_whole [] digits = refl
first_whole (b ∷ bs) digits =
    let parts_of = both (is_ascii_digit b) (all_ascii_digits bs) digits in
    ap (λ parts_here. if parts_here then [] else b ∷ first_part (is_byte 58) bs) (no_colon b parts_of.0) ∙ ap (λ more. b ∷ more) (first_whole bs parts_of.1)

none_other : (number : List ℕ) → all_ascii_digits number ≡ true → other_parts (is_byte 58) number ≡ []
none_other [] digits = refl
none_other (b ∷ bs) digits =
    let parts_of = both (is_ascii_digit b) (all_ascii_digits bs) digits in
    ap (λ parts_here. if parts_here then first_part (is_byte 58) bs ∷ other_parts (is_byte 58) bs else other_parts (is_byte 58) bs) (no_colon b parts_of.0)
    ∙ none_other bs parts_of.1

no_parts : (number : List ℕ) → all_ascii_digits number ≡ true → parts (is_byte 58) number ≡ number ∷ []
no_parts number digits = (λ i. first_whole number digits i ∷ none_other number digits i)

-- ---- the rules

pub tracks : (own : List ℕ) (acls : List Acl) → rule_of own acls (codes "track-sc0" ∷ codes "src" ∷ []) ≡ Ok (tracking_rule own)
unfolding rule_of action_of tracked_slot track_of key_of table_named rule_with
tracks own acls = refl

pub refuses : (own : List ℕ) (acls : List Acl) (number : List ℕ) (limit : ℕ) → number_of number ≡ Some limit
    → rule_of own acls (codes "reject" ∷ codes "if" ∷ codes "{" ∷ codes "sc0_conn_cur" ∷ codes "gt" ∷ number ∷ codes "}" ∷ []) ≡ Ok (refusing_rule limit)
unfolding rule_of action_of rule_with criteria_of subject_of plain_subject on_slot slot_subject fetch_of operator_of pattern_of
refuses own acls number limit is =
    let all : all_ascii_digits number ≡ true = digits number limit is in
    let no_or : bytes_eq number (codes "or") ≡ false = not_word number _ _ all refl in
    let no_bars : bytes_eq number (codes "||") ≡ false = not_word number _ _ all refl in
    let no_brace : bytes_eq number (codes "}") ≡ false = not_word number _ _ all refl in
    let no_eq : bytes_eq number (codes "eq") ≡ false = not_word number _ _ all refl in
    let no_ge : bytes_eq number (codes "ge") ≡ false = not_word number _ _ all refl in
    let no_gt : bytes_eq number (codes "gt") ≡ false = not_word number _ _ all refl in
    let no_le : bytes_eq number (codes "le") ≡ false = not_word number _ _ all refl in
    let no_lt : bytes_eq number (codes "lt") ≡ false = not_word number _ _ all refl in
    let one : parts (is_byte 58) number ≡ number ∷ [] = no_parts number all in
    rw (no_or, no_bars, no_brace, no_eq, no_ge, no_gt, no_le, no_lt, one, is) refl
