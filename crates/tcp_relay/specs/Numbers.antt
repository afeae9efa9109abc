-- The numbers of connections.
use Rattle.std.specs.Prelude.{ℕ, ◌^◌, min, Option, Some, None}

-- the last that is drawn: the one after which serving stops, and never one above 2^62
abbrev pub last_of : Option ℕ → ℕ
last_of (Some number) = min number (2 ^ 62)
last_of None = 2 ^ 62
