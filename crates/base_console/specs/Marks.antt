-- What stands in front of a line, and what is said of lost ones.
use Rattle.std.specs.Prelude.{ℕ, Bool, List, ◌++◌, codes, decimal, if◌then◌else◌}
use Rattle.log.specs.declared.level.Level.{Level}
use Rattle.log.specs.declared.level.Level.TheVariants.{Error, Warn, Info, Debug, Trace}

-- journald takes <3> for an error and <4> for a warning
abbrev pub journal_mark : Level → List ℕ
journal_mark Error = codes "<3>"
journal_mark Warn = codes "<4>"
journal_mark Info = codes ""
journal_mark Debug = codes ""
journal_mark Trace = codes ""

-- a terminal has no mark
abbrev pub mark_of : Level → Bool → List ℕ
mark_of level is_terminal = if is_terminal then codes "" else journal_mark level

abbrev pub lost_text : ℕ → List ℕ
lost_text count = codes "stickd: " ++ decimal count ++ codes " lines lost"
