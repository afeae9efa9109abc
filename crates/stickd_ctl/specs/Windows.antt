-- What of a text fits in a terminal.
use Rattle.std.specs.Prelude.{ℕ, nat_lt, ◌-◌, ◌==◌, Option, None, Some, List, [], ◌∷◌, ◌++◌, codes, decimal, length, take, if◌then◌else◌}
use Rattle.std.specs.List.{flat_map}
use Rattle.base_lines.specs.Number.{number_of}
use Rattle.stickd_ctl.specs.declared.window.Window.{Window}

-- a size, where it is a number other than 0, and else the usual one
abbrev pub size_or : ℕ → Option ℕ → ℕ
size_or usual None = usual
size_or usual (Some size) = if size == 0 then usual else size

abbrev pub size_of : ℕ → Option (List ℕ) → ℕ
size_of usual None = usual
size_of usual (Some text) = size_or usual (number_of text)

-- a line cut to so many columns
abbrev pub cut_line : ℕ → List ℕ → List ℕ
cut_line columns line = take columns line ++ codes "\n"

abbrev pub more_line : ℕ → List ℕ
more_line count = codes ".. " ++ decimal count ++ codes " more\n"

-- all lines, where one is left for the cursor; else those at the head, but for two: one for the cursor, and one that says how many more there are
abbrev pub fitting : Window → List (List ℕ) → List ℕ
fitting window lines =
    if nat_lt (length lines) window.lines then flat_map (cut_line window.columns) lines
    else flat_map (cut_line window.columns) (take (window.lines - 2) lines) ++ more_line (length lines - (window.lines - 2))
