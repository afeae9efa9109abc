-- Signals that wait to be delivered, as the system tells them (proc_pid_status(5)).
use Rattle.std.specs.Prelude.{ℕ, Bool, true, false, ◌&&◌, ◌||◌, ◌==◌, ◌+◌, ◌*◌, ◌/◌, ◌%◌, ◌^◌, nat_lt, Option, Some, None, List, [], ◌∷◌, codes, if◌then◌else◌}
use Rattle.std.specs.Char.{digit_value}
use Rattle.std.specs.Option.{option_map_or}
use Rattle.std.specs.Str.{bytes_eq}
use Rattle.base_lines.specs.Parts.{parts, is_line_end}
use Rattle.base_lines.specs.Words.{words, is_blank}
use Rattle.base_lines.specs.declared.words.Blanks.TheVariants.{SpacesAndTabs}
use Rattle.tcp_watch.specs.declared.pending.Signals.{Signals}
use Rattle.tcp_watch.specs.declared.pending.Signals.TheVariants.{Pending, Blocked}
use Rattle.tcp_watch.specs.declared.pending.StopSignal.{StopSignal}
use Rattle.tcp_watch.specs.declared.pending.StopSignal.TheVariants.{Interrupt, Terminate}

-- a number of 64 bits with one more hexadecimal digit behind it
abbrev pub with_hex_digit : ℕ → ℕ → Option ℕ
with_hex_digit number byte =
    if nat_lt (digit_value byte) 16 && nat_lt (number * 16 + digit_value byte) (2 ^ 64) then Some (number * 16 + digit_value byte) else None

-- the number with these digits behind it, where all are digits and it fits
abbrev pub hex_from : Option ℕ → List ℕ → Option ℕ
hex_from None bytes = None
hex_from (Some number) [] = Some number
hex_from (Some number) (byte ∷ bytes) = hex_from (with_hex_digit number byte) bytes

abbrev pub hex_number : List ℕ → Option ℕ
hex_number digits = hex_from (Some 0) digits

-- signal n is bit n - 1 of a set: SIGINT, signal 2, is worth 2, and SIGTERM, signal 15, is worth 16,384 (signal(7))
abbrev pub is_in : StopSignal → ℕ → Bool
is_in Interrupt signals = signals / 2 % 2 == 1
is_in Terminate signals = signals / 16_384 % 2 == 1

-- the lines that tell such signals: of the thread or of the process, or those that are held back
abbrev pub are_named : Signals → List ℕ → Bool
are_named Pending name = bytes_eq name (codes "SigPnd:") || bytes_eq name (codes "ShdPnd:")
are_named Blocked name = bytes_eq name (codes "SigBlk:")

-- the words of a line that tells such signals, of which this is one
abbrev pub tells_stop : Signals → StopSignal → List (List ℕ) → Bool
tells_stop signals stop (name ∷ digits ∷ rest) = are_named signals name && option_map_or (is_in stop) (hex_number digits) false
tells_stop signals stop other = false

-- some line of a status does
abbrev pub has_stop : Signals → StopSignal → List (List ℕ) → Bool
has_stop signals stop [] = false
has_stop signals stop (line ∷ lines) = tells_stop signals stop (words (is_blank SpacesAndTabs) line) || has_stop signals stop lines

-- how many of both signals wait
abbrev pub count_waiting : Bool → Bool → ℕ
count_waiting true true = 2
count_waiting true false = 1
count_waiting false true = 1
count_waiting false false = 0

abbrev pub count_pending : List ℕ → ℕ
count_pending status = count_waiting (has_stop Pending Interrupt (parts is_line_end status)) (has_stop Pending Terminate (parts is_line_end status))

abbrev pub is_blocked : StopSignal → List ℕ → Bool
is_blocked stop status = has_stop Blocked stop (parts is_line_end status)
