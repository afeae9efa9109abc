-- What form a command has, by its words alone.
use Rattle.std.specs.Prelude.{ℕ, Bool, true, false, ◌&&◌, Option, Some, None, is_some, List, [], ◌∷◌, take, drop, codes, if◌then◌else◌}
use Rattle.std.specs.Option.{option_map_or}
use Rattle.std.specs.Str.{bytes_eq}
use Rattle.stick_model.specs.declared.filters.Op.{Op}
use Rattle.stick_model.specs.declared.filters.Op.TheVariants.{Eq, Ne, Le, Ge, Lt, Gt}

-- which entries: all, that of a key's text, or those whose value of a named field compares so with a number's text
pub data Choice : Type 0 where
  Everything : Choice
  OneKey : List ℕ → Choice
  Compare : List ℕ → Op → List ℕ → Choice

-- what is asked of a table: its entries, that entries go, or that a key's entry gets these pairs of words
pub data Request : Type 0 where
  Show : Choice → Request
  Clear : Choice → Request
  Set : List ℕ → List (List ℕ) → Request

-- no words; none of the forms; show table; or one that asks something of the table of a name
pub data Form : Type 0 where
  Nothing : Form
  Unknown : Form
  Tables : Form
  Of : List ℕ → Request → Form

-- the name behind data.
abbrev pub datum_name : List ℕ → Option (List ℕ)
datum_name word = if bytes_eq (take 5 word) (codes "data.") then Some (drop 5 word) else None

abbrev pub op_of : List ℕ → Option Op
op_of word =
    if bytes_eq word (codes "eq") then Some Eq
    else (if bytes_eq word (codes "ne") then Some Ne
    else (if bytes_eq word (codes "le") then Some Le
    else (if bytes_eq word (codes "ge") then Some Ge
    else (if bytes_eq word (codes "lt") then Some Lt
    else (if bytes_eq word (codes "gt") then Some Gt
    else None)))))

-- data.X OP V
abbrev pub compare_of : Option (List ℕ) → Option Op → List ℕ → Option Choice
compare_of (Some name) (Some op) value = Some (Compare name op value)
compare_of (Some name) None value = None
compare_of None op value = None

-- nothing, key K, or data.X OP V
abbrev pub choice_of : List (List ℕ) → Option Choice
choice_of [] = Some Everything
choice_of (word ∷ []) = None
choice_of (word ∷ key ∷ []) = if bytes_eq word (codes "key") then Some (OneKey key) else None
choice_of (word ∷ op ∷ value ∷ []) = compare_of (datum_name word) (op_of op) value
choice_of (word ∷ op ∷ value ∷ more ∷ rest) = None

-- pairs of data.X and V
abbrev pub are_pairs : List (List ℕ) → Bool
are_pairs [] = true
are_pairs (word ∷ []) = false
are_pairs (word ∷ value ∷ rest) = is_some (datum_name word) && are_pairs rest

-- nothing, or T, and which of its entries
abbrev pub show_of : List (List ℕ) → Form
show_of [] = Tables
show_of (name ∷ rest) = option_map_or (λ choice. Of name (Show choice)) (choice_of rest) Unknown

-- T, and which of its entries
abbrev pub clear_of : List (List ℕ) → Form
clear_of [] = Unknown
clear_of (name ∷ rest) = option_map_or (λ choice. Of name (Clear choice)) (choice_of rest) Unknown

-- T key K, and pairs
abbrev pub set_of : List (List ℕ) → Form
set_of (name ∷ word ∷ key ∷ rest) = if bytes_eq word (codes "key") && are_pairs rest then Of name (Set key rest) else Unknown
set_of (name ∷ word ∷ []) = Unknown
set_of (name ∷ []) = Unknown
set_of [] = Unknown

abbrev pub form_of : List (List ℕ) → Form
form_of [] = Nothing
form_of (verb ∷ []) = Unknown
form_of (verb ∷ noun ∷ rest) =
    if bytes_eq noun (codes "table") then
    (if bytes_eq verb (codes "show") then show_of rest
    else (if bytes_eq verb (codes "clear") then clear_of rest
    else (if bytes_eq verb (codes "set") then set_of rest
    else Unknown)))
    else Unknown
