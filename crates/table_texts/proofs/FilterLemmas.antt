-- On filters one after another.
use Rattle.std.proofs.Common.{◌≡◌, ◌∙◌, ◌-◌, ℕ, true, ◌&&◌, nat_lt, List, ◌∷◌, sym, ap}
use Rattle.table_texts.specs.Filters.{are_filters, is_filter}

-- a filter more was found
pub one_fewer : (left : ℕ) (word op value : List ℕ) (all mid last rest : List (List ℕ)) → all ≡ word ∷ mid → mid ≡ op ∷ last → last ≡ value ∷ rest
    → nat_lt 0 left ≡ true → is_filter word op ≡ true → are_filters (left - 1) rest ≡ are_filters left all
one_fewer left word op value all mid last rest first second third some is =
    sym (
    ap (are_filters left) (first ∙ ap (λ ws. word ∷ ws) (second ∙ ap (λ ws. op ∷ ws) third))
    ∙ ap (λ b. b && is_filter word op && are_filters (left - 1) rest) some
    ∙ ap (λ b. true && b && are_filters (left - 1) rest) is
    )
