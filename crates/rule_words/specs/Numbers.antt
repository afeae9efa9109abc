-- Numbers, sizes and times.
use Rattle.std.specs.Prelude.{ℕ, ◌+◌, ◌-◌, ◌*◌, ◌/◌, ◌^◌, ◌&&◌, ◌||◌, List, [], take, drop, codes, nat_le, Option, Some, None, Result, Ok, Err, if◌then◌else◌}
use Rattle.std.specs.Option.{option_map}
use Rattle.std.specs.List.{prefix_len}
use Rattle.std.specs.Str.{bytes_eq}
use Rattle.std.specs.Char.{is_ascii_digit}
use Rattle.base_lines.specs.Number.{number_of}
use Rattle.rule_model.specs.declared.faults.Fault.{Fault}
use Rattle.rule_model.specs.declared.faults.Fault.TheVariants.{BadNumber, BadSize}

-- a number between two limits, or a fault
abbrev pub within : ℕ → ℕ → Fault → Option ℕ → Result ℕ Fault
within least greatest fault None = Err fault
within least greatest fault (Some n) = if nat_le least n && nat_le n greatest then Ok n else Err fault

-- a number from `least` to `greatest`
abbrev pub bounded_number : ℕ → ℕ → List ℕ → Result ℕ Fault
bounded_number least greatest text = within least greatest BadNumber (number_of text)

-- the digits in front of a text, and what follows them
abbrev pub digits_of : List ℕ → List ℕ
digits_of text = take (prefix_len is_ascii_digit text) text

abbrev pub suffix_of : List ℕ → List ℕ
suffix_of text = drop (prefix_len is_ascii_digit text) text

-- so many of a unit
abbrev pub times : Option ℕ → Option ℕ → Option ℕ
times (Some n) (Some unit) = Some (n * unit)
times (Some n) None = None
times None unit = None

-- k, m and g, in either case
unfoldable pub size_unit : List ℕ → Option ℕ
size_unit suffix =
    if bytes_eq suffix [] then Some 1
    else (if bytes_eq suffix (codes "k") || bytes_eq suffix (codes "K") then Some (2 ^ 10)
    else (if bytes_eq suffix (codes "m") || bytes_eq suffix (codes "M") then Some (2 ^ 20)
    else (if bytes_eq suffix (codes "g") || bytes_eq suffix (codes "G") then Some (2 ^ 30)
    else None)))

-- a size: decimal, with an optional suffix, from 1 to 2^30
unfoldable pub size_of : List ℕ → Result ℕ Fault
size_of text = within 1 (2 ^ 30) BadSize (times (number_of (digits_of text)) (size_unit (suffix_of text)))

-- the microseconds of a unit of time; without one a time is in ms
unfoldable pub time_unit : List ℕ → Option ℕ
time_unit suffix =
    if bytes_eq suffix [] then Some 1000
    else (if bytes_eq suffix (codes "us") then Some 1
    else (if bytes_eq suffix (codes "ms") then Some 1000
    else (if bytes_eq suffix (codes "s") then Some 1000000
    else (if bytes_eq suffix (codes "m") then Some 60000000
    else (if bytes_eq suffix (codes "h") then Some 3600000000
    else (if bytes_eq suffix (codes "d") then Some 86400000000
    else None))))))

-- microseconds in whole ms, rounded up
abbrev pub rounded_up : ℕ → ℕ
rounded_up microseconds = (microseconds + 999) / 1000

-- a time in ms: decimal, with an optional unit, from 1 to 2^31 - 1
unfoldable pub time_of : List ℕ → Result ℕ Fault
time_of text = within 1 (2 ^ 31 - 1) BadNumber (option_map rounded_up (times (number_of (digits_of text)) (time_unit (suffix_of text))))
