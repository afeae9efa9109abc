-- What is said of the other socket behind the answer to help.
use Rattle.std.specs.Prelude.{ℕ, Bool, false, List, [], ◌∷◌, codes, if◌then◌else◌}
use Rattle.std.specs.Str.{bytes_eq}

abbrev pub asks_for_help : List (List ℕ) → Bool
asks_for_help [] = false
asks_for_help (word ∷ words) = bytes_eq word (codes "help")

-- the command socket doesn't know that word: so what it answers, and what the stats socket has beside that
unfoldable pub at_commands : List ℕ
at_commands = codes "The socket of --socket answers\n  show table [<table> [<filter>]]         : the tables, or what one of them holds (filter: data/key)\n  set table <table> key <k> [data.* <v>]* : update or create a table entry's data\n  clear table <table> [<filter>]          : remove entries from a table (filter: data/key)\nline after line. That of --stats-socket also answers show info, show stat, stop and others: ask it for help.\n"

-- what the stats socket leaves to the command socket
unfoldable pub at_stats : List ℕ
at_stats = codes "The socket of --socket answers show table, set table and clear table alone, line after line.\n"

abbrev pub hint : Bool → List ℕ
hint is_known = if is_known then at_stats else at_commands
