-- How a row's value is printed.
use Rattle.std.specs.Prelude.{ℕ, ◌+◌, ◌/◌, ◌%◌, List, [], ◌∷◌, ◌++◌, codes, decimal}
use Rattle.tcp_stats.specs.Csv.{csv_text}
use Rattle.tcp_stats.specs.declared.value.Value.{Value}
use Rattle.tcp_stats.specs.declared.value.Value.TheVariants as values

-- a number below 100, in two digits
abbrev pub two_digits : ℕ → List ℕ
two_digits number = (48 + number / 10) ∷ (48 + number % 10) ∷ []

-- so many seconds as days, hours, minutes and seconds: 1d 2h03m04s
abbrev pub span_text : ℕ → List ℕ
span_text seconds =
    decimal (seconds / 86400) ++ codes "d " ++ decimal (seconds / 3600 % 24) ++ codes "h" ++ two_digits (seconds / 60 % 60) ++ codes "m" ++ two_digits (seconds % 60) ++ codes "s"

-- a value: none, a number, a word, a name, or a span of seconds
pub data Shown : Type 0 where
  Nothing : Shown
  Number : ℕ → Shown
  Word : List ℕ → Shown
  Name : List ℕ → Shown
  Span : ℕ → Shown

-- a value of the code, without where its letters lie in memory
abbrev pub seen_value : Value → Shown
seen_value values.Nothing = Nothing
seen_value (values.Number number) = Number number
seen_value (values.Word word) = Word word.now
seen_value (values.Name name) = Name name.now
seen_value (values.Span seconds) = Span seconds

-- a value among others with commas between
abbrev pub value_text : Shown → List ℕ
value_text Nothing = []
value_text (Number number) = decimal number
value_text (Word word) = word
value_text (Name name) = csv_text name
value_text (Span seconds) = span_text seconds

-- a value on a line of its own
abbrev pub plain_text : Shown → List ℕ
plain_text Nothing = []
plain_text (Number number) = decimal number
plain_text (Word word) = word
plain_text (Name name) = name
plain_text (Span seconds) = span_text seconds
