-- The lines of an answer: a table's, and those of its entries.
use Rattle.std.specs.Prelude.{ℕ, Bool, false, nat_eq, ◌&&◌, Option, Some, None, is_some, option_map, option_and_then, List, [], ◌∷◌, length, drop, codes, if◌then◌else◌}
use Rattle.std.specs.List.{list_all, starts_with}
use Rattle.std.specs.Str.{bytes_eq}
use Rattle.base_lines.specs.Parts.{parts, first_part, is_byte}
use Rattle.base_lines.specs.Number.{number_of}
use Rattle.base_lines.specs.Parentheses.{before_parenthesis}
use Rattle.stickd_ctl.specs.declared.lines.Header.{Header}

-- what stands behind the first such byte
abbrev pub behind : ℕ → List ℕ → List ℕ
behind separator [] = []
behind separator (b ∷ bs) = if is_byte separator b then bs else behind separator bs

-- whether a text begins with a prefix
abbrev pub begins : List ℕ → List ℕ → Bool
begins prefix text = starts_with nat_eq text prefix

-- what stands behind a prefix, where the text begins with it
abbrev pub behind_prefix : List ℕ → List ℕ → Option (List ℕ)
behind_prefix prefix text = if begins prefix text then Some (drop (length prefix) text) else None

-- the number behind a prefix
abbrev pub number_behind : List ℕ → List ℕ → Option ℕ
number_behind prefix text = option_and_then number_of (behind_prefix prefix text)

-- what a table's line says
pub record HeaderText : Type 0 where
  pub name : List ℕ
  pub kind : List ℕ
  pub size : ℕ
  pub used : ℕ

abbrev pub header_text : Header → HeaderText
header_text header = record { name = header.name.now; kind = header.kind.now; size = header.size; used = header.used }

-- no part is left behind a header
abbrev pub at_end : HeaderText → List (List ℕ) → Option HeaderText
at_end header [] = Some header
at_end header (part ∷ parts) = None

-- the number of entries, and what is left
abbrev pub with_used : List ℕ → List ℕ → ℕ → List (List ℕ) → Option ℕ → Option HeaderText
with_used name kind size parts None = None
with_used name kind size parts (Some used) = at_end (record { name = name; kind = kind; size = size; used = used }) parts

-- the size, and then the number of entries
abbrev pub with_size : List ℕ → List ℕ → List (List ℕ) → Option ℕ → Option HeaderText
with_size name kind parts None = None
with_size name kind [] (Some size) = None
with_size name kind (used ∷ parts) (Some size) = with_used name kind size parts (number_behind (codes " used:") used)

-- what the keys are, and then the size
abbrev pub with_kind : List ℕ → List (List ℕ) → Option (List ℕ) → Option HeaderText
with_kind name parts None = None
with_kind name [] (Some kind) = None
with_kind name (size ∷ parts) (Some kind) = with_size name kind parts (number_behind (codes " size:") size)

-- NAME, type: TYPE, size:N, used:N
abbrev pub header_parts : List (List ℕ) → Option HeaderText
header_parts [] = None
header_parts (name ∷ []) = None
header_parts (name ∷ kind ∷ parts) = with_kind name parts (behind_prefix (codes " type: ") kind)

-- # table: and these parts, with commas between them
abbrev pub header_of : List ℕ → Option HeaderText
header_of line = option_and_then (λ rest. header_parts (parts (is_byte 44) rest)) (behind_prefix (codes "# table: ") line)

-- the words of a line
abbrev pub words : List ℕ → List (List ℕ)
words line = parts (is_byte 32) line

-- the number behind a word's first =
abbrev pub number_of_word : List ℕ → Option ℕ
number_of_word word = number_of (behind 61 word)

abbrev pub is_number : List ℕ → Bool
is_number word = is_some (number_of_word word)

-- 0x..: key=KEY, and numbers with their names
abbrev pub is_row_of_words : List (List ℕ) → Bool
is_row_of_words (address ∷ key ∷ numbers) = begins (codes "0x") address && begins (codes "key=") key && list_all is_number numbers
is_row_of_words _ = false

abbrev pub is_row : List ℕ → Bool
is_row line = is_row_of_words (words line)

-- what stands behind the = of an entry's second word
abbrev pub key_in : List (List ℕ) → List ℕ
key_in (address ∷ key ∷ numbers) = behind 61 key
key_in _ = []

abbrev pub key_of : List ℕ → List ℕ
key_of line = key_in (words line)

-- the name of a word's number, without the period that a rate has in parentheses
abbrev pub bare_name : List ℕ → List ℕ
bare_name word = before_parenthesis (first_part (is_byte 61) word)

-- the number of this name
abbrev pub value_in : List ℕ → List (List ℕ) → Option ℕ
value_in name [] = None
value_in name (word ∷ words) = if bytes_eq (bare_name word) name then number_of_word word else value_in name words

-- the number of this name in an entry
abbrev pub value_in_row : List ℕ → List (List ℕ) → Option ℕ
value_in_row name (address ∷ key ∷ numbers) = value_in name numbers
value_in_row name _ = None

abbrev pub value_of : List ℕ → List ℕ → Option ℕ
value_of name line = value_in_row name (words line)
