-- Decimal numbers.
use Rattle.std.specs.Prelude.{ℕ, ◌&&◌, nat_lt, ◌^◌, Option, Some, None, List, if◌then◌else◌}
use Rattle.std.specs.Str.{all_ascii_digits}
use Rattle.std.specs.Str.Parse.{digits_value}
use Rattle.base_lines.specs.Words.{is_some_text}

-- the number that one or more decimal digits write, where it is below 2 ^ 64
unfoldable pub number_of : List ℕ → Option ℕ
number_of text = if is_some_text text && all_ascii_digits text && nat_lt (digits_value 10 text) (2 ^ 64) then Some (digits_value 10 text) else None
