-- What the system says of a process in one line (proc_pid_stat(5)).
use Rattle.std.specs.Prelude.{ℕ, ◌==◌, ◌+◌, ◌-◌, ◌*◌, ◌/◌, ◌^◌, min, Option, Some, None, List, [], ◌∷◌, if◌then◌else◌}
use Rattle.base_lines.specs.Parts.{parts, is_byte}
use Rattle.base_lines.specs.Words.{words, is_blank}
use Rattle.base_lines.specs.Number.{number_of}
use Rattle.base_lines.specs.declared.words.Blanks.TheVariants.{Spaces}
use Rattle.tcp_watch.specs.declared.process_stat.ProcessStat.{ProcessStat}

-- the last of some texts, or this one where there are none
abbrev pub last_or : List ℕ → List (List ℕ) → List ℕ
last_or text [] = text
last_or text (part ∷ more) = last_or part more

-- the words after the first so many
abbrev pub behind : ℕ → List (List ℕ) → List (List ℕ)
behind count [] = []
behind count (word ∷ more) = if count == 0 then word ∷ more else behind (count - 1) more

-- the number that is the first word
abbrev pub first_number : List (List ℕ) → Option ℕ
first_number [] = None
first_number (word ∷ more) = number_of word

abbrev pub number_behind : ℕ → List (List ℕ) → Option ℕ
number_behind count all = first_number (behind count all)

-- the program's name stands in round brackets, and may have any byte; words follow it
abbrev pub words_of : List ℕ → List (List ℕ)
words_of line = words (is_blank Spaces) (last_or [] (parts (is_byte 41) line))

-- the state is field 3 and the first word there. Fields 14 and 15 are the time of the program and of the system for it, in ticks;
-- field 23 the bytes that have addresses, and field 24 the pages in use
abbrev pub stat_of : List ℕ → ProcessStat
stat_of line = record {
  user_ticks = number_behind 11 (words_of line);
  system_ticks = number_behind 12 (words_of line);
  virtual_bytes = number_behind 20 (words_of line);
  resident_pages = number_behind 21 (words_of line);
}

-- ticks in ms, up to 2^64 - 1
abbrev pub ms_of : ℕ → ℕ → ℕ
ms_of ticks per_second = min (ticks * 1_000 / per_second) (2 ^ 64 - 1)
