-- What a line of a saved file says.
use Rattle.std.specs.Prelude.{ℕ, Bool, false, ◌==◌, Option, Some, None, List, [], ◌∷◌, codes, if◌then◌else◌}
use Rattle.std.specs.List.{list_any}
use Rattle.std.specs.Str.{bytes_eq}
use Rattle.base_lines.specs.Parts.{is_semicolon}
use Rattle.base_lines.specs.Number.{number_of}
use Rattle.base_lines.specs.Line.{without_cr}
use Rattle.base_lines.specs.Words.{LineRest, after_word, words_left}
use Rattle.base_lines.specs.declared.words.Blanks.TheVariants.{SpacesAndTabs}
use Rattle.table_texts.specs.Form.{Form, Request, Nothing, Unknown, Tables, Of, Show, Clear, Set, form_of}
use Rattle.table_texts.specs.Seen.{words_of}

-- why a line can't be loaded: the word that is no number of ms, the word where cmd is to stand, a command that sets no entry,
-- the first line of what the command is answered, or the table whose shard has no place for the entry; why none is, as the file is
-- cut, or has so many entries and says another number; or memory was short
pub data Fault : Type 0 where
  NoTime : List ℕ → Fault
  NoCommand : List ℕ → Fault
  NoEntry : List ℕ → Fault
  Answered : List ℕ → List ℕ → Fault
  NoRoom : List ℕ → Fault
  Cut : Fault
  Miscounted : ℕ → ℕ → Fault
  NoMemory : Fault

-- a fault, and the number of its line, counted from 1
pub record FaultAt : Type 0 where
  pub line : ℕ
  pub fault : Fault

-- nothing that is done; an entry that has so many ms left, its table, and the command that makes it; or what is wrong
pub data Line : Type 0 where
  Passed : Line
  Makes : ℕ → List ℕ → List ℕ → Line
  Wrong : Fault → Line

-- ---- reading a line

-- words are parted by spaces and tabs
abbrev pub text_of : List ℕ → LineRest
text_of line = record { blanks = SpacesAndTabs; text = without_cr line }

-- whether a word begins a comment
abbrev pub is_comment : List ℕ → Bool
is_comment [] = false
is_comment (byte ∷ bytes) = byte == 35

-- only set table T key K .. makes an entry
abbrev pub asked_of : ℕ → List ℕ → List ℕ → Request → Line
asked_of left table command (Set key pairs) = Makes left table command
asked_of left table command (Show choice) = Wrong (NoEntry command)
asked_of left table command (Clear choice) = Wrong (NoEntry command)

abbrev pub made_by : ℕ → List ℕ → Form → Line
made_by left command (Of table request) = asked_of left table command request
made_by left command Nothing = Wrong (NoEntry command)
made_by left command Unknown = Wrong (NoEntry command)
made_by left command Tables = Wrong (NoEntry command)

-- one command, which has no semicolon
abbrev pub entry_of : ℕ → List ℕ → Line
entry_of left command = if list_any is_semicolon command then Wrong (NoEntry command) else made_by left command (form_of (words_of command))

-- cmd, and the command
abbrev pub by_verb : ℕ → List (List ℕ) → LineRest → Line
by_verb left [] rest = Wrong (NoCommand [])
by_verb left (verb ∷ words) rest = if bytes_eq verb (codes "cmd") then entry_of left (after_word rest).text else Wrong (NoCommand verb)

-- the ms that are left, and then cmd
abbrev pub by_time : List ℕ → Option ℕ → LineRest → Line
by_time word None rest = Wrong (NoTime word)
by_time word (Some left) rest = by_verb left (words_left rest) rest

-- an empty line, a comment, or LEFT cmd set table T key K ..
abbrev pub by_words : List (List ℕ) → LineRest → Line
by_words [] rest = Passed
by_words (word ∷ words) rest = if is_comment word then Passed else by_time word (number_of word) (after_word rest)

abbrev pub line_of : List ℕ → Line
line_of line = by_words (words_left (text_of line)) (text_of line)
