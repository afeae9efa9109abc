-- Commands, and the answers that say why one did nothing.
use Rattle.std.specs.Prelude.{ℕ, Bool, ◌==◌, ◌&&◌, ◌||◌, nat_le, not, List, [], ◌∷◌, length}
use Rattle.std.specs.List.{list_any, list_all}
use Rattle.std.specs.Str.{bytes_eq}
use Rattle.base_lines.specs.Parts.{first_part, parts, is_line_end}
use Rattle.base_lines.specs.Line.{longest_line}
use Rattle.table_texts.specs.Texts.{message_text}
use Rattle.table_texts.specs.declared.message.Message.{Message}
use Rattle.table_texts.specs.declared.message.Message.TheVariants.{UnknownCommand, NoSuchTable, InvalidKey, NotStored, NotSettable, InvalidValue, InUse, KeyNotPresent, TableFull, OutOfMemory, Unavailable}

-- why a command may have done nothing
abbrev pub all_messages : List Message
all_messages = UnknownCommand ∷ NoSuchTable ∷ InvalidKey ∷ NotStored ∷ NotSettable ∷ InvalidValue ∷ InUse ∷ KeyNotPresent ∷ TableFull ∷ OutOfMemory ∷ Unavailable ∷ []

-- the first line of a message's text
abbrev pub is_said_by : List ℕ → Message → Bool
is_said_by line message = bytes_eq (first_part is_line_end (message_text message)) line

-- the lines that say why a command did nothing
abbrev pub is_error_line : List ℕ → Bool
is_error_line line = list_any (λ message. is_said_by line message) all_messages

-- an answer with such a line
abbrev pub is_error : List ℕ → Bool
is_error answer = list_any is_error_line (parts is_line_end answer)

abbrev pub has_line_end : List ℕ → Bool
has_line_end text = list_any is_line_end text

-- no line end, and no more bytes than a line has
abbrev pub is_command : List ℕ → Bool
is_command text = nat_le (length text) longest_line && not (has_line_end text)

-- nothing but blanks, tabs and semicolons
abbrev pub is_blank : List ℕ → Bool
is_blank text = list_all (λ byte. (byte == 32) || (byte == 9) || (byte == 59)) text
