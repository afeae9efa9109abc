-- How long may still be waited for who reads.
use Rattle.std.specs.Prelude.{ℕ, ◌-◌, nat_lt, Option, Some, None, if◌then◌else◌}

-- a step takes 10 ms; where fewer are left, nobody waits any more
abbrev pub left_after : ℕ → Option ℕ
left_after left = if nat_lt left 10 then None else Some (left - 10)
