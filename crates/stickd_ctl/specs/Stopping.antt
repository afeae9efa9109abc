-- The end of a running stickd, as its operator sees it.
use Rattle.std.specs.Prelude.{ℕ, nat_lt, ◌+◌, ◌-◌, ◌^◌, min, Bool, Option, None, Some, List, [], ◌∷◌, codes, if◌then◌else◌}
use Rattle.std.specs.List.{list_all}
use Rattle.base_lines.specs.Parts.{parts, is_line_end}
use Rattle.stickd_ctl.specs.Lines.{begins, number_behind}
use Rattle.stickd_ctl.specs.declared.last_word.LastWord.{LastWord}
use Rattle.stickd_ctl.specs.declared.last_word.LastWord.TheVariants.{Stopped, Unsaved}
use Rattle.stickd_ctl.specs.declared.stopping.Seen.{Seen}
use Rattle.stickd_ctl.specs.declared.stopping.Seen.TheVariants.{Runs, Said, Gone, Dead, Silent}
use Rattle.stickd_ctl.specs.declared.stopping.AfterLook.{AfterLook}
use Rattle.stickd_ctl.specs.declared.stopping.AfterLook.TheVariants.{Done, NotSaved, Died, StandsStill, LookAgain, GiveUp}

-- the number behind a name, on the first line that begins with the name
abbrev pub number_named : List ℕ → List (List ℕ) → Option ℕ
number_named name [] = None
number_named name (line ∷ lines) = if begins name line then number_behind name line else number_named name lines

-- the number of the process, as `show info` says it
abbrev pub pid_of : List ℕ → Option ℕ
pid_of answer = number_named (codes "Pid: ") (parts is_line_end answer)

-- a program that said its last word and closed the connection has ended
abbrev pub after_word : LastWord → AfterLook
after_word Stopped = Done
after_word Unsaved = NotSaved

-- what to do after a look at the program's socket. Where its file is gone, the program has removed it as it ended in order; where
-- nobody listens there, it hasn't. One that runs is looked at again, until so many ms are over
abbrev pub after_look : Seen → ℕ → ℕ → AfterLook
after_look Runs waited most = if nat_lt waited most then LookAgain else GiveUp
after_look (Said word) waited most = after_word word
after_look Gone waited most = Done
after_look Dead waited most = Died
after_look Silent waited most = StandsStill

-- a program that is told a time may take so many ms more; one that goes by its own is waited for until it ends
abbrev pub most_wait : Option ℕ → ℕ → ℕ
most_wait None patience = 2 ^ 64 - 1
most_wait (Some drain) patience = min (drain + patience) (2 ^ 64 - 1)

-- nothing but line ends
abbrev pub is_quiet : List ℕ → Bool
is_quiet answer = list_all is_line_end answer
