-- On filters that are read.
use Rattle.std.proofs.Common.{◌≡◌, ℕ, Result, Ok, Err, List, [], ◌∷◌, ◌++◌, append_assoc, refl, sym, ap, ◌∙◌, unwrap_or}
use Rattle.base_lines.specs.Number.{number_of}
use Rattle.table_texts.specs.Comparisons.{comparison_of, comparisons_of, with_comparison}
use Rattle.table_texts.specs.FieldNames.{field_of}
use Rattle.table_texts.specs.Form.{datum_name, op_of}
use Rattle.table_texts.specs.declared.comparisons.Comparison.{Comparison}
use Rattle.table_texts.specs.declared.message.Message.{Message}

-- what was read, with these in front
abbrev pub after : List Comparison → Result (List Comparison) Message → Result (List Comparison) Message
after prefix (Ok all) = Ok (prefix ++ all)
after prefix (Err message) = Err message

pub after-none : (read : Result (List Comparison) Message) → after [] read ≡ read
after-none (Ok all) = refl
after-none (Err message) = refl

pub after-more : (prefix : List Comparison) (one : Comparison) (read : Result (List Comparison) Message) → after prefix (with_comparison (Ok one) read) ≡ after (prefix ++ one ∷ []) read
after-more prefix one (Ok all) = ap Ok (sym (append_assoc prefix (one ∷ []) all))
after-more prefix one (Err message) = refl

-- a filter more was read
pub one_more : (prefix new : List Comparison) (one : Comparison) (word op value : List ℕ) (left mid last rest : List (List ℕ)) → left ≡ word ∷ mid → mid ≡ op ∷ last → last ≡ value ∷ rest
    → Ok one ≡ comparison_of (op_of op) (field_of (unwrap_or (datum_name word) [])) (number_of value) → new ≡ prefix ++ one ∷ [] → after new (comparisons_of rest) ≡ after prefix (comparisons_of left)
one_more prefix new one word op value left mid last rest first second third is more =
    ap (λ all. after all (comparisons_of rest)) more
    ∙ sym (after-more prefix one (comparisons_of rest))
    ∙ ap (λ read. after prefix (with_comparison read (comparisons_of rest))) is
    ∙ ap (λ ws. after prefix (comparisons_of ws)) (sym (first ∙ ap (λ ws. word ∷ ws) (second ∙ ap (λ ws. op ∷ ws) third)))
