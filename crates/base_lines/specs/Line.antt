-- The line that is being read.
use Rattle.std.specs.Prelude.{ℕ, nat_le, Option, Some, None, List, ◌++◌, length, if◌then◌else◌}
use Rattle.std.specs.Str.Lines.{strip_carriage_return}

-- the most bytes of a line, without its end
abbrev pub longest_line : ℕ
longest_line = 16384

-- a line, unless it is too long
abbrev pub held : List ℕ → Option (List ℕ)
held line = if nat_le (length line) longest_line then Some line else None

-- with more bytes behind it
abbrev pub held_with : Option (List ℕ) → List ℕ → Option (List ℕ)
held_with None more = None
held_with (Some line) more = held (line ++ more)

-- a line without the one carriage return at its end, where it has one
abbrev pub without_cr : List ℕ → List ℕ
without_cr line = strip_carriage_return line
