-- What a service manager is told (sd_notify(3)), and where.
use Rattle.std.specs.Prelude.{◌≡◌, ◌⊎◌, ◌≤◌, ℕ, List, [], ◌∷◌, ◌++◌, codes, length, slice_index, ◌==◌, if◌then◌else◌}
use Rattle.base_lines.specs.Parts.{first_part, is_line_end}
use Rattle.tcp_watch.specs.declared.texts.Notice.{Notice}
use Rattle.tcp_watch.specs.declared.texts.Notice.TheVariants.{Ready, Stopping, Watchdog}

abbrev pub notice_text : Notice → List ℕ
notice_text Ready = codes "READY=1\n"
notice_text Stopping = codes "STOPPING=1\n"
notice_text Watchdog = codes "WATCHDOG=1\n"

-- how the program is: the first line of what is said of it
abbrev pub status_text : List ℕ → List ℕ
status_text status = codes "STATUS=" ++ first_part is_line_end status ++ codes "\n"

-- a socket by its path from the root, or by an abstract name behind '@', that the system's address has room for (unix(7))
abbrev pub IsAddress : List ℕ → Type 0
IsAddress value = (2 ≤ length value) × (length value ≤ 107) × ((slice_index value 0 ≡ 47) ⊎ (slice_index value 0 ≡ 64))

-- what such an address begins with: a zero in place of '@'
abbrev pub first_of : List ℕ → ℕ
first_of value = if slice_index value 0 == 64 then 0 else slice_index value 0
