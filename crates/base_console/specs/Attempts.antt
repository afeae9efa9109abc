-- What one write comes to (write(2), errno(3)).
use Rattle.std.specs.Prelude.{ℕ, Option, Some, None, ◌==◌, if◌then◌else◌}
use Rattle.base_console.specs.declared.attempt.Attempt.{Attempt}
use Rattle.base_console.specs.declared.attempt.Attempt.TheVariants.{Took, Full, Interrupted, Failed}

-- the bytes that it took; where that is none, and by error 11, there is no room now, and by 4 a signal came between
abbrev pub attempt_of : Option ℕ → ℕ → Attempt
attempt_of (Some count) error = if count == 0 then Full else Took count
attempt_of None error = if error == 11 then Full else if error == 4 then Interrupted else Failed error
