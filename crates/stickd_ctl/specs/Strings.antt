-- JSON's strings.
use Rattle.std.specs.Prelude.{ℕ, zero, suc, Bool, ◌==◌, ◌&&◌, ◌||◌, ◌+◌, ◌-◌, ◌/◌, ◌%◌, nat_le, nat_lt, List, [], ◌∷◌, ◌++◌, length, take, slice_index, codes, if◌then◌else◌}
use Rattle.std.specs.Str.{is_utf8}

-- whether bytes begin with so many bytes that are UTF-8
abbrev pub begins_with_text : List ℕ → ℕ → Bool
begins_with_text bytes count = nat_le count (length bytes) && is_utf8 (take count bytes)

-- how many bytes the character takes that bytes begin with, 0 where none begins there
abbrev pub char_length : List ℕ → ℕ
char_length bytes =
    if begins_with_text bytes 1 then 1
    else (if begins_with_text bytes 2 then 2
    else (if begins_with_text bytes 3 then 3
    else (if begins_with_text bytes 4 then 4
    else 0)))

abbrev pub hex_digit : ℕ → ℕ
hex_digit number = if nat_lt number 10 then 48 + number else 97 + (number - 10)

-- a byte of ASCII: behind a backslash where it is a quote or one, and as \u00 and two digits where it is a control
abbrev pub ascii_text : ℕ → List ℕ
ascii_text byte =
    if (byte == 34) || (byte == 92) then 92 ∷ byte ∷ []
    else (if nat_lt byte 32 then codes "\\u00" ++ hex_digit (byte / 16) ∷ hex_digit (byte % 16) ∷ []
    else byte ∷ [])

-- U+FFFD, which stands for what is no character
abbrev pub no_char : List ℕ
no_char = 239 ∷ 191 ∷ 189 ∷ []

-- what bytes begin with: a character of so many bytes, or a byte that isn't UTF-8
abbrev pub char_text : List ℕ → ℕ → List ℕ
char_text bytes count =
    if (count == 0) || nat_lt (length bytes) count then no_char
    else (if count == 1 then ascii_text (slice_index bytes 0)
    else take count bytes)

-- what stands between the quotes, once so many bytes are left out that belong to the last character
abbrev pub string_body : ℕ → List ℕ → List ℕ
string_body skipped [] = []
string_body zero (byte ∷ bytes) = char_text (byte ∷ bytes) (char_length (byte ∷ bytes)) ++ string_body (char_length (byte ∷ bytes) - 1) bytes
string_body (suc skipped) (byte ∷ bytes) = string_body skipped bytes

abbrev pub string_text : List ℕ → List ℕ
string_text bytes = 34 ∷ string_body 0 bytes ++ 34 ∷ []
