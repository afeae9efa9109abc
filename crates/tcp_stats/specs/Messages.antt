-- The answers of the stats socket that are the same each time, and its help.
use Rattle.std.specs.Prelude.{ℕ, nat_eq, Bool, true, false, List, [], ◌∷◌, ◌++◌, codes, if◌then◌else◌}
use Rattle.std.specs.List.{flat_map, list_any, starts_with}
use Rattle.base_lines.specs.Parts.{is_line_end, parts}
use Rattle.base_lines.specs.Words.{is_blank, words}
use Rattle.base_lines.specs.declared.words.Blanks.TheVariants.{SpacesAndTabs}
use Rattle.tcp_stats.specs.declared.messages.StatsMessage.{StatsMessage}
use Rattle.tcp_stats.specs.declared.messages.StatsMessage.TheVariants as messages

-- the commands, a line each, but those that follow each list
unfoldable pub command_list : List ℕ
command_list = codes "  clear table <table> [<filter>]*         : remove an entry from a table (filter: data/key)\n  reload                                  : read the rules again, of the file of the start\n  set table <table> key <k> [data.* <v>]* : update or create a table entry's data\n  show errors                             : report last request and/or response errors for each proxy\n  show info [json|typed]*                 : report information about the running process\n  show stat [json|no-maint|typed|up]*     : report counters for each proxy and server\n  show stat <iid> <type> <sid> [json|..]* : report counters of a proxy (-1: any), of types (1, 2, 4; -1: any), of a server (-1: any)\n  show table <table> [<filter>]*          : report table usage stats or dump this table's contents (filter: data/key)\n  show table <table> oldest-first         : dump this table's contents in the order in which entries go\n  shutdown frontend <frontend>            : stop a specific frontend\n  stop [<ms>]                             : end the program; open connections may go on for so long"

-- those that follow each list
unfoldable pub common_list : List ℕ
common_list = codes "  help [<command>]                        : list matching or all commands\n  prompt                                  : toggle interactive mode with prompt\n  quit                                    : disconnect\n"

-- ---- help

-- whether words begin so: each of these begins the one at its place
abbrev pub begin_with : List (List ℕ) → List (List ℕ) → Bool
begin_with own [] = true
begin_with [] (word ∷ asked) = false
begin_with (first ∷ own) (word ∷ asked) = if starts_with nat_eq first word then begin_with own asked else false

-- the words of a line
abbrev pub line_words : List ℕ → List (List ℕ)
line_words line = words (is_blank SpacesAndTabs) line

-- whether a line tells a command that begins so
abbrev pub tells : List (List ℕ) → List ℕ → Bool
tells asked line = begin_with (line_words line) asked

abbrev pub line_if : List (List ℕ) → List ℕ → List ℕ
line_if asked line = if tells asked line then line ++ codes "\n" else []

abbrev pub command_lines : List (List ℕ)
command_lines = parts is_line_end command_list

-- the commands that begin so
abbrev pub matching_lines : List (List ℕ) → List ℕ
matching_lines asked = flat_map (line_if asked) command_lines

-- what was asked about, where a command begins so, and else nothing, so that all are told
abbrev pub asked_or_all : List (List ℕ) → List (List ℕ)
asked_or_all asked = if list_any (tells asked) command_lines then asked else []

unfoldable pub asked_lines : List (List ℕ) → List ℕ
asked_lines asked = matching_lines (asked_or_all asked)

unfoldable pub help_heading : List ℕ
help_heading = codes "The following commands are valid at this level:\n"

-- the answer to help
unfoldable pub help_text : List (List ℕ) → List ℕ
help_text asked = help_heading ++ asked_lines asked ++ common_list ++ codes "\n"

-- ---- answers that are the same each time

-- what an answer says, in front of the list of commands where one follows
abbrev pub message_words : StatsMessage → List ℕ
message_words messages.Unknown = codes "Unknown command. Please enter one of the following commands only:\n"
message_words messages.Done = []
message_words messages.FrontendExpected = codes "A frontend name is expected.\n"
message_words messages.NoSuchFrontend = codes "No such frontend.\n"
message_words messages.AlreadyShutDown = codes "Frontend was already shut down.\n"
message_words messages.NoSuchProxy = codes "No such proxy.\n"
message_words messages.PermissionDenied = codes "Permission denied\n"

-- whether the commands follow
abbrev pub lists_commands : StatsMessage → Bool
lists_commands messages.Unknown = true
lists_commands messages.Done = false
lists_commands messages.FrontendExpected = false
lists_commands messages.NoSuchFrontend = false
lists_commands messages.AlreadyShutDown = false
lists_commands messages.NoSuchProxy = false
lists_commands messages.PermissionDenied = false

abbrev pub commands_if : Bool → List ℕ
commands_if is_listed = if is_listed then matching_lines [] ++ common_list else []

-- the whole answer, which an empty line ends
abbrev pub message_text : StatsMessage → List ℕ
message_text message = message_words message ++ commands_if (lists_commands message) ++ codes "\n"
