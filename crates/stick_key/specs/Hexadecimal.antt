-- Bytes written in hexadecimal digits, two a byte, and keys of a given number of bytes.
use Rattle.std.specs.Prelude.{refl, ◌≡◌, ℕ, ◌+◌, ◌-◌, ◌*◌, ◌/◌, ◌%◌, ◌==◌, ◌&&◌, Bool, false, List, [], ◌∷◌, ◌++◌, length, take, replicate, codes}
use Rattle.std.specs.Char.{digit_char, digit_value}
use Rattle.std.specs.List.{flat_map}
use Rattle.stick_key.specs.Numeral.{is_numeral}

-- two hexadecimal digits, in either case, or four, or more of them in pairs
abbrev pub is_hexadecimal : List ℕ → Bool
is_hexadecimal text = is_numeral 16 text && (length text % 2 == 0)

-- the bytes that digits spell, pair by pair, the higher digit first
abbrev pub spelled : List ℕ → List ℕ
spelled [] = []
spelled (digit ∷ []) = []
spelled (high ∷ low ∷ digits) = (16 * digit_value high + digit_value low) ∷ spelled digits

-- the two lower-case digits of a byte
abbrev pub hex_byte : ℕ → List ℕ
hex_byte byte = digit_char (byte / 16) ∷ digit_char (byte % 16) ∷ []

-- those of each byte
abbrev pub hexadecimal : List ℕ → List ℕ
hexadecimal = flat_map hex_byte

-- exactly n bytes: the first of these, and zeros behind them where they are fewer
abbrev pub fitted : ℕ → List ℕ → List ℕ
fitted n bytes = take n bytes ++ replicate (n - length bytes) 0

-- examples, the first two of RFC 4648, section 10
spelled-upper_case : spelled (codes "666F6F626172") ≡ codes "foobar"
spelled-upper_case = refl

hexadecimal-lower_case : hexadecimal (codes "foobar") ≡ codes "666f6f626172"
hexadecimal-lower_case = refl

odd-number_of_digits : is_hexadecimal (codes "666") ≡ false
odd-number_of_digits = refl

no-digits : is_hexadecimal [] ≡ false
no-digits = refl

other-byte : is_hexadecimal (codes "6g") ≡ false
other-byte = refl

fitted-cut : fitted 2 (codes "foo") ≡ codes "fo"
fitted-cut = refl

fitted-filled : fitted 5 (codes "foo") ≡ 102 ∷ 111 ∷ 111 ∷ 0 ∷ 0 ∷ []
fitted-filled = refl
