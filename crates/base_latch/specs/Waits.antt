-- For how long a thread waits.
use Rattle.std.specs.Prelude.{ℕ, ℤ, pos, negsuc, min, Option, Some, None}

-- what poll(2) is asked, in ms: for ever is said by -1, and no time is longer than 2^31 - 1
abbrev pub poll_time : Option ℕ → ℤ
poll_time None = negsuc 0
poll_time (Some most) = pos (min most 2147483647)
