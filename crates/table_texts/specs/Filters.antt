-- Several filters after VERB table T, which the stats socket takes beside the forms of the command socket.
use Rattle.std.specs.Prelude.{ℕ, ◌-◌, nat_lt, Bool, true, false, ◌&&◌, Option, Some, None, is_some, List, [], ◌∷◌, codes, if◌then◌else◌}
use Rattle.std.specs.Str.{bytes_eq}
use Rattle.table_texts.specs.Form.{datum_name, op_of}
use Rattle.table_texts.specs.Seen.{words_of}
use Rattle.table_texts.specs.declared.filters.Filtered.{Filtered as ItsFiltered}

-- the words of filters, and of which table they mean entries
pub record Filtered : Type 0 where
  pub table : List ℕ
  pub filters : List (List ℕ)

-- data.X OP, before a value
abbrev pub is_filter : List ℕ → List ℕ → Bool
is_filter word op = is_some (datum_name word) && is_some (op_of op)

-- filters one after another, each data.X OP V, and at most so many
abbrev pub are_filters : ℕ → List (List ℕ) → Bool
are_filters most [] = true
are_filters most (word ∷ []) = false
are_filters most (word ∷ op ∷ []) = false
are_filters most (word ∷ op ∷ value ∷ rest) = nat_lt 0 most && is_filter word op && are_filters (most - 1) rest

-- more words than one filter has
abbrev pub are_more_than_one : List (List ℕ) → Bool
are_more_than_one (word ∷ op ∷ value ∷ more ∷ rest) = true
are_more_than_one (word ∷ op ∷ value ∷ []) = false
are_more_than_one (word ∷ op ∷ []) = false
are_more_than_one (word ∷ []) = false
are_more_than_one [] = false

-- T, and two to four filters
abbrev pub of_table : List (List ℕ) → Option Filtered
of_table [] = None
of_table (name ∷ rest) = if are_more_than_one rest && are_filters 4 rest then Some (record { table = name; filters = rest }) else None

-- VERB table T, and two to four filters
abbrev pub filtered_of : List ℕ → List (List ℕ) → Option Filtered
filtered_of verb (first ∷ noun ∷ rest) = if bytes_eq first verb && bytes_eq noun (codes "table") then of_table rest else None
filtered_of verb (first ∷ []) = None
filtered_of verb [] = None

-- the same of the code, without where its words lie in memory
abbrev pub seen_filtered : ItsFiltered → Filtered
seen_filtered filtered = record { table = filtered.table.now; filters = words_of filtered.filters.now }
