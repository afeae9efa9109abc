-- Rows of several tables: whether those of each are in order first makes no difference to the order of all.
use Rattle.std.proofs.Common.{◌≡◌, refl, sym, ◌∙◌, List, [], ◌∷◌, ◌++◌, filter}
use Rattle.std.specs.Cmp.{IsStrictWeakOrder}
use Rattle.std.specs.Cmp.Lexicographic.{nat_list_cmp_total}
use Rattle.std.specs.List.Sorted.{ties}
use Rattle.std.proofs.lemmas.List.Elements.{filter-append}
use Rattle.std.proofs.lemmas.List.MinMax.{ranks_by}
use Rattle.stick_model.specs.Gathered.{Gathered, has_lower_key, in_key_order}
use Rattle.stick_model.specs.Listed.{each_in_order, of_all}
use Rattle.stick_model.specs.declared.rows.Row.{Row}
use Rattle.stick_model.proofs.OrderLemmas.{order-is, order-keeps, order-rises}

pub key_ranks : IsStrictWeakOrder has_lower_key
key_ranks = ranks_by nat_list_cmp_total (λ (row : Row). row.key)

-- rows in order stay as they are
pub order-again : (rows : List Row) → in_key_order (in_key_order rows) ≡ in_key_order rows
order-again rows = sym (order-is has_lower_key key_ranks (in_key_order rows) (in_key_order rows) (order-rises has_lower_key key_ranks rows) (λ q. refl))

each-keeps : (parts : List Gathered) (q : Row) → filter (ties has_lower_key q) (each_in_order parts) ≡ filter (ties has_lower_key q) (of_all parts)
each-keeps [] q = refl
each-keeps (g ∷ parts) q =
    filter-append (ties has_lower_key q) (in_key_order g.rows) (each_in_order parts)
    ∙ (λ i. order-keeps has_lower_key key_ranks g.rows q i ++ each-keeps parts q i)
    ∙ sym (filter-append (ties has_lower_key q) g.rows (of_all parts))

pub parts-order : (parts : List Gathered) → in_key_order (of_all parts) ≡ in_key_order (each_in_order parts)
parts-order parts =
    order-is has_lower_key key_ranks (each_in_order parts) (in_key_order (of_all parts))
    (order-rises has_lower_key key_ranks (of_all parts))
    (λ q. order-keeps has_lower_key key_ranks (of_all parts) q ∙ sym (each-keeps parts q))
