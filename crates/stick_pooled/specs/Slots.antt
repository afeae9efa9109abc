-- What slots mean: the entries in the order of their keys.
use Rattle.std.specs.Prelude.{◌≡◌, ℕ, List, [], ◌∷◌, Option, Some, None, get_or, if◌then◌else◌, ◌<◌, length}
use Rattle.std.specs.BTreeMap.{insert_entry}
use Rattle.std.specs.Ordering.{is_eq}
use Rattle.std.specs.declared.cmp.Ordering.{Ordering}
use Rattle.std.specs.declared.cmp.Ordering.TheVariants.{Equal}

module _ {K X : Type 0} (R : K → K → Ordering) where
  -- the entries of the slots that have one, in the order of their keys
  abbrev pub entries_of : List (Option (K × X)) → List (K × X)
  entries_of [] = []
  entries_of (None ∷ slots) = entries_of slots
  entries_of (Some e ∷ slots) = insert_entry R (entries_of slots) e.0 e.1

  -- the value of the first slot that has the key
  abbrev pub found_in : K → List (Option (K × X)) → Option X
  found_in q [] = None
  found_in q (None ∷ slots) = found_in q slots
  found_in q (Some e ∷ slots) = if is_eq (R q e.0) then Some e.1 else found_in q slots

  -- no two slots have one key
  abbrev pub IsDistinctIn : List (Option (K × X)) → Type 0
  IsDistinctIn slots = (i j : ℕ) (d e : K × X) → get_or slots i None ≡ Some d → get_or slots j None ≡ Some e → R d.0 e.0 ≡ Equal → i ≡ j

  -- the slot is the only one that has the key, if one has it, and has no other key
  pub record IsAlone (slots : List (Option (K × X))) (at : ℕ) (k : K) : Type 0 where
    pub within : at < length slots
    pub only : (j : ℕ) (e : K × X) → get_or slots j None ≡ Some e → R k e.0 ≡ Equal → j ≡ at
    pub no_other : (e : K × X) → get_or slots at None ≡ Some e → R k e.0 ≡ Equal
