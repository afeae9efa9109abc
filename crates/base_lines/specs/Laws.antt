-- What the definitions come to, in std's words.
use Rattle.std.specs.Prelude.{◌≡◌, ℕ, ◌<◌, ◌≤◌, ◌^◌, Bool, List, MatchOption, decimal, Some}
use Rattle.std.specs.List.{slice_split, join_with_byte}
use Rattle.std.specs.Str.Parse.{IsNumeral, digits_value}
use Rattle.base_lines.specs.Parts.{parts, is_byte}
use Rattle.base_lines.specs.Number.{number_of}

-- the parts are those that std's split gives
abbrev pub PartsAreSplit : Type 0
PartsAreSplit = (p : ℕ → Bool) (bytes : List ℕ) → parts p bytes ≡ slice_split p bytes

-- the parts at a byte, joined by it, are the whole
abbrev pub PartsJoinBack : Type 0
PartsJoinBack = (separator : ℕ) (bytes : List ℕ) → join_with_byte separator (parts (is_byte separator) bytes) ≡ bytes

-- a text's number is what its digits write; only what is no numeral, or one of 2 ^ 64 or more, has none
abbrev pub NumbersAreNumerals : Type 0
NumbersAreNumerals = (text : List ℕ) →
    MatchOption (number_of text) (IsNumeral 10 text → 2 ^ 64 ≤ digits_value 10 text) (λ n. IsNumeral 10 text × (n ≡ digits_value 10 text) × (n < 2 ^ 64))

-- the decimal text of a number reads as the number
abbrev pub NumbersReadBack : Type 0
NumbersReadBack = (n : ℕ) → n < 2 ^ 64 → number_of (decimal n) ≡ Some n
