-- Connections that wait to be accepted.
use Rattle.std.specs.Prelude.{ℕ, nat_lt, Option, Some, None, if◌then◌else◌}

-- what the system allows, where that is known and is less than was asked for
abbrev pub fewer_than : ℕ → Option ℕ → Option ℕ
fewer_than asked None = None
fewer_than asked (Some most) = if nat_lt most asked then Some most else None
