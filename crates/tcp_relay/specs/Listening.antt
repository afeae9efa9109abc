-- Which listener is asked for clients.
use Rattle.std.specs.Prelude.{◌+◌, ℕ, nat_lt, if◌then◌else◌}

-- the place behind this one of so many, the first behind the last
abbrev pub behind : ℕ → ℕ → ℕ
behind place count = if nat_lt (place + 1) count then place + 1 else 0
