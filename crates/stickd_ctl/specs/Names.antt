-- A word that is sent as the name of a table, and the commands that show what it holds.
use Rattle.std.specs.Prelude.{ℕ, Bool, false, not, ◌==◌, ◌&&◌, List, ◌++◌, codes, length}
use Rattle.std.specs.List.{list_all}

-- a byte that parts words, commands or lines
abbrev pub parts_none : ℕ → Bool
parts_none byte = not (byte == 32) && not (byte == 9) && not (byte == 10) && not (byte == 59)

-- it is one word of one command
abbrev pub is_name : List ℕ → Bool
is_name word = not (length word == 0) && list_all parts_none word

-- the command that shows the entries of a table
abbrev pub show_text : List ℕ → List ℕ
show_text name = codes "show table " ++ name

-- the same, in the order in which they go
abbrev pub oldest_first_text : List ℕ → List ℕ
oldest_first_text name = show_text name ++ codes " oldest-first"
