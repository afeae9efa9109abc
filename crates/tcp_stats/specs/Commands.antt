-- The commands of the stats socket.
use Rattle.std.specs.Prelude.{ℕ, Option, None, Some, Bool, ◌&&◌, ◌||◌, List, [], ◌∷◌, codes, if◌then◌else◌}
use Rattle.std.specs.Str.{bytes_eq}
use Rattle.base_lines.specs.Line.{without_cr}
use Rattle.base_lines.specs.Number.{number_of}
use Rattle.base_lines.specs.Words.{words, is_blank}
use Rattle.base_lines.specs.declared.words.Blanks.TheVariants.{SpacesAndTabs}
use Rattle.tcp_stats.specs.CommandForms.{Command, ShowErrors, Help, Prompt, Quit, ShutdownFrontend, Stop, Reload, OldestFirst, Table, Empty, Unknown}
use Rattle.tcp_stats.specs.StatQueries.{info_of, stat_of}

-- a command's words, between spaces and tabs
abbrev pub words_of : List ℕ → List (List ℕ)
words_of line = words (is_blank SpacesAndTabs) (without_cr line)

-- prompt, quit, stop without a time of its own, and reload
abbrev pub single_of : List ℕ → Command
single_of verb =
    if bytes_eq verb (codes "prompt") then Prompt
    else (if bytes_eq verb (codes "quit") then Quit
    else (if bytes_eq verb (codes "stop") then Stop None
    else (if bytes_eq verb (codes "reload") then Reload
    else Unknown)))

-- behind show errors nothing follows
abbrev pub errors_of : List (List ℕ) → Command
errors_of [] = ShowErrors
errors_of (more ∷ rest) = Unknown

-- behind show: info, stat, errors
abbrev pub show_of : List ℕ → List (List ℕ) → Command
show_of noun rest =
    if bytes_eq noun (codes "info") then info_of rest
    else (if bytes_eq noun (codes "stat") then stat_of rest
    else (if bytes_eq noun (codes "errors") then errors_of rest
    else Unknown))

-- behind shutdown frontend: its name
abbrev pub shutdown_of : List (List ℕ) → Command
shutdown_of [] = ShutdownFrontend []
shutdown_of (name ∷ []) = ShutdownFrontend name
shutdown_of (name ∷ more ∷ rest) = Unknown

-- behind stop: a number of ms, and nothing else
abbrev pub stop_after : Option ℕ → Command
stop_after None = Unknown
stop_after (Some ms) = Stop (Some ms)

abbrev pub stop_of : List ℕ → List (List ℕ) → Command
stop_of time [] = stop_after (number_of time)
stop_of time (more ∷ rest) = Unknown

-- show, set and clear are followed by table
abbrev pub is_of_tables : List ℕ → Bool
is_of_tables verb = bytes_eq verb (codes "show") || bytes_eq verb (codes "set") || bytes_eq verb (codes "clear")

-- behind show table: a name and oldest-first, and nothing else; all other words are those of the command socket
abbrev pub show_table_of : List (List ℕ) → Command
show_table_of [] = Table
show_table_of (name ∷ []) = Table
show_table_of (name ∷ order ∷ []) = if bytes_eq order (codes "oldest-first") then OldestFirst name else Table
show_table_of (name ∷ order ∷ more ∷ rest) = Table

-- behind table, by the word before it
abbrev pub table_of : List ℕ → List (List ℕ) → Command
table_of verb rest = if bytes_eq verb (codes "show") then show_table_of rest else Table

-- two words, and those behind them
abbrev pub pair_of : List ℕ → List ℕ → List (List ℕ) → Command
pair_of verb noun rest =
    if bytes_eq noun (codes "table") && is_of_tables verb then table_of verb rest
    else (if bytes_eq noun (codes "frontend") && bytes_eq verb (codes "shutdown") then shutdown_of rest
    else (if bytes_eq verb (codes "stop") then stop_of noun rest
    else (if bytes_eq verb (codes "show") then show_of noun rest
    else Unknown)))

-- one word, or more
abbrev pub behind_verb : List ℕ → List (List ℕ) → Command
behind_verb verb [] = single_of verb
behind_verb verb (noun ∷ rest) = pair_of verb noun rest

-- help may have any words behind it
abbrev pub command_of : List (List ℕ) → Command
command_of [] = Empty
command_of (verb ∷ rest) = if bytes_eq verb (codes "help") then Help rest else behind_verb verb rest
