-- What is said on standard error of what goes wrong.
use Rattle.std.specs.Prelude.{ℕ, List, [], ◌∷◌, ◌++◌, codes}
use Rattle.tcp_stats.specs.Trouble.{trouble_text}
use Rattle.tcp_stats.specs.declared.trouble.Trouble.{Trouble}

-- a line: its level, the program's name, what went wrong with what is known of the last time, and the line's end
abbrev pub line_of : List ℕ → Trouble → List ℕ → List ℕ
line_of level trouble last = level ++ codes "stickd: " ++ trouble_text trouble last ++ 10 ∷ []
