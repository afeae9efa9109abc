-- What a table's listing is saved as: a line for each entry, by which `--load` makes it again.
use Rattle.std.specs.Prelude.{◌≡◌, ℕ, ◌-◌, ◌^◌, ◌==◌, nat_lt, Bool, false, not, ◌&&◌, Option, unwrap_or, List, [], ◌∷◌, ◌++◌, map, filter, length, codes, decimal, IsPermutation, if◌then◌else◌}
use Rattle.std.specs.Option.{option_map_or}
use Rattle.std.specs.Ordering.{nat_cmp}
use Rattle.std.specs.List.{flat_map, list_all}
use Rattle.std.specs.List.Sorted.{IsSortedByKey, IsStableByKey}
use Rattle.base_lines.specs.Parts.{parts, is_line_end}
use Rattle.stored_data.specs.Data.{is_settable}
use Rattle.stored_data.specs.declared.field.Field.{Field}
use Rattle.table_texts.specs.FieldNames.{field_of}
use Rattle.table_cli.specs.SavedEnd.{first_text, last_text}
use Rattle.stickd_ctl.specs.Lines.{HeaderText, behind, is_row, key_of, value_of}
use Rattle.stickd_ctl.specs.Json.{name_of, numbers_of}
use Rattle.stickd_ctl.specs.declared.saved.Entry.{Entry}

-- ---- one entry

-- the longest life of an entry, in ms
abbrev pub longest_life : ℕ
longest_life = 2 ^ 31 - 1

-- the ms that an entry has left: its whole life where nothing but a connection keeps it, since it is refreshed when that ends
abbrev pub time_with : ℕ → ℕ → ℕ
time_with refs left = if (left == 0) && nat_lt 0 refs then longest_life else left

abbrev pub time_of : List ℕ → ℕ
time_of line = time_with (unwrap_or (value_of (codes "use") line) 0) (unwrap_or (value_of (codes "exp") line) 0)

-- whether a number of this name can be set: no rate can, nor the number of connections
abbrev pub can_set : List ℕ → Bool
can_set name = option_map_or (λ (field : Field). is_settable field.datum) (field_of name) false

-- data.NAME VALUE behind a blank, where that can be set
abbrev pub pair_text : List ℕ → List ℕ
pair_text word = if can_set (name_of word) then codes " data." ++ name_of word ++ codes " " ++ behind 61 word else []

-- a command can write a key where no semicolon stands in it, which ends a command, and no backslash, by which only listings escape
abbrev pub can_write : List ℕ → Bool
can_write key = list_all (λ byte. not (byte == 59) && not (byte == 92)) key

-- LEFT cmd set table T key K
abbrev pub head_text : ℕ → List ℕ → List ℕ → List ℕ
head_text left table key = decimal left ++ codes " cmd set table " ++ table ++ codes " key " ++ key

-- the same, and data.X V ..
abbrev pub entry_text : List ℕ → Entry → List ℕ
entry_text table entry = head_text entry.left table (key_of entry.line.now) ++ flat_map pair_text (numbers_of entry.line.now) ++ codes "\n"

-- ---- a table

-- the lines of entries that a command can make, and of those that none can
abbrev pub is_saved : List ℕ → Bool
is_saved line = is_row line && can_write (key_of line)

abbrev pub is_lost : List ℕ → Bool
is_lost line = is_row line && not (can_write (key_of line))

abbrev pub saved_lines : List ℕ → List (List ℕ)
saved_lines listing = filter is_saved (parts is_line_end listing)

abbrev pub lost_lines : List ℕ → List (List ℕ)
lost_lines listing = filter is_lost (parts is_line_end listing)

-- each entry stands for a line, with the time that it has left
abbrev pub line_in : Entry → List ℕ
line_in entry = entry.line.now

pub record AreOf (entries : List Entry) (lines : List (List ℕ)) : Type 0 where
  pub lines_are : map line_in entries ≡ lines
  pub times_are : map (λ (entry : Entry). entry.left) entries ≡ map time_of lines

-- the same entries, those with less time left first: they are the first to go; those with the same time stand as they did
pub record AreOrdered (entries ordered : List Entry) : Type 0 where
  pub same : IsPermutation entries ordered
  pub rise : IsSortedByKey (λ (entry : Entry). entry.left) nat_cmp ordered
  pub stand : IsStableByKey (λ (entry : Entry). entry.left) nat_cmp entries ordered

-- the entries of a listing as lines, in the order in which they go
pub record IsSavedAs (table listing text : List ℕ) : Type 0 where
  pub entries : List Entry
  pub ordered : List Entry
  pub all_of : AreOf entries (saved_lines listing)
  pub in_order : AreOrdered entries ordered
  pub text_is : text ≡ flat_map (entry_text table) ordered

-- ---- all tables

-- how many entries of a table aren't saved
abbrev pub lost_text : List ℕ → ℕ → List ℕ
lost_text table count = codes "# not saved of table " ++ table ++ codes ": " ++ decimal count ++ codes " entries, whose keys no command can write\n"

abbrev pub loss_text : List ℕ → ℕ → List ℕ
loss_text table count = if count == 0 then [] else lost_text table count

-- what each line is, and what isn't saved of any table
abbrev pub first_notes : List ℕ
first_notes =
    codes "# each line has the ms that an entry has left, and the command that makes it\n"
    ++ codes "# not saved: rates, and which connections hold an entry\n"

-- what is said where some listing doesn't tell which entry goes first
abbrev pub order_note : Bool → List ℕ
order_note is_known = if is_known then [] else codes "# not known: which of two entries goes first that have the same time left, as all of a table without expire\n"

-- whether each listing told which entry goes first, how many entries aren't saved, the lines of the others, and how many these are
pub record SavedText : Type 0 where
  pub order_known : Bool
  pub losses : List ℕ
  pub lines : List ℕ
  pub entries : ℕ

-- the whole text: the line by which such a file is known, what isn't saved or known, the lines of the entries, and how many these are
abbrev pub whole_text : SavedText → List ℕ
whole_text saved = first_text ++ first_notes ++ order_note saved.order_known ++ saved.losses ++ saved.lines ++ last_text saved.entries
