-- What a cursor over parts still gives.
use Rattle.std.specs.Prelude.{ℕ, List, [], Option, Some, None}
use Rattle.std.specs.Borrow.{Bor}
use Rattle.base_lines.specs.Parts.{parts, is_byte}

-- the parts of what is left, if anything is
abbrev pub parts_left : ℕ → Option (Bor (List ℕ)) → List (List ℕ)
parts_left separator None = []
parts_left separator (Some rest) = parts (is_byte separator) rest.now
