-- How often a service manager wants to hear from a program.
use Rattle.std.specs.Prelude.{ℕ, Bool, true, false, ◌==◌, ◌/◌, max, Option, Some, None, List, if◌then◌else◌}
use Rattle.std.specs.Option.{option_map_or}
use Rattle.base_lines.specs.Number.{number_of}

-- a process's number, as it is written, is this one
abbrev pub is_number : ℕ → List ℕ → Bool
is_number own text = option_map_or (λ (number : ℕ). number == own) (number_of text) false

-- half of so many microseconds, in ms
abbrev pub half_in_ms : Option ℕ → Option ℕ
half_in_ms None = None
half_in_ms (Some micros) = if micros == 0 then None else Some (max (micros / 2_000) 1)

abbrev pub half_of : Option (List ℕ) → Option ℕ
half_of None = None
half_of (Some text) = half_in_ms (number_of text)

-- where no process is named, each is meant
abbrev pub watchdog_of : Option (List ℕ) → Option (List ℕ) → ℕ → Option ℕ
watchdog_of time process own = if option_map_or (is_number own) process true then half_of time else None
