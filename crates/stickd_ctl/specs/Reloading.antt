-- What a running stickd says that was asked to read its rules again.
use Rattle.std.specs.Prelude.{ℕ, Bool, true, false, ◌||◌, List, [], ◌∷◌, codes, if◌then◌else◌}
use Rattle.base_lines.specs.Parts.{first_part, is_line_end}
use Rattle.stickd_ctl.specs.Lines.{begins}
use Rattle.stickd_ctl.specs.declared.reloading.Outcome.{Outcome}
use Rattle.stickd_ctl.specs.declared.reloading.Outcome.TheVariants.{Reloaded, Refused, NotTaken}

-- the first line of its answer
abbrev pub said_by : List ℕ → List ℕ
said_by answer = first_part is_line_end answer

abbrev pub is_nothing : List ℕ → Bool
is_nothing [] = true
is_nothing (byte ∷ bytes) = false

-- who says nothing, or that the command is unknown, hasn't taken it; and whoever took it says that the rules were read, or why not
abbrev pub outcome_of : List ℕ → Outcome
outcome_of said =
    if is_nothing said || begins (codes "Unknown command") said then NotTaken
    else (if begins (codes "Reloaded: ") said then Reloaded else Refused)
