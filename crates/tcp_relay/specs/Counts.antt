-- What is counted of connections.
use Rattle.std.specs.Prelude.{ℕ, ◌+◌, ◌-◌, ◌^◌, min}

-- both together, up to 2^64 - 1
abbrev pub sum : ℕ → ℕ → ℕ
sum count other = min (count + other) (2 ^ 64 - 1)

-- one more, up to 2^64 - 1
abbrev pub more : ℕ → ℕ
more count = sum count 1
