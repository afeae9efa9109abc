-- What is done each so many ms.
use Rattle.std.specs.Prelude.{ℕ, ◌+◌, ◌-◌, ◌^◌, ◌%◌, nat_lt, min, if◌then◌else◌}

-- a sum, up to 2^64 - 1
abbrev pub sum_within : ℕ → ℕ → ℕ
sum_within a b = min (a + b) (2 ^ 64 - 1)

-- the beats are `every` apart, and `next` is one: the first of them that is behind `now`, or `next` where that is behind it
abbrev pub next_beat : ℕ → ℕ → ℕ → ℕ
next_beat every next now = if nat_lt now next then next else sum_within (now - (now - next) % every) every
