-- All faults of a text.
use Rattle.std.specs.Prelude.{◌≡◌, ◌==◌, ◌-◌, ◌++◌, ℕ, zero, suc, Option, Some, None, Result, Ok, Err, List, [], ◌∷◌, length, if◌then◌else◌}
use Rattle.rule_model.specs.declared.sections.Config.{Config}
use Rattle.rule_model.specs.declared.faults.Fault.{Fault}
use Rattle.rule_model.specs.declared.faults.ReadError.TheVariants.{Wrong}
use Rattle.rule_words.specs.Lines.{lines_of}
use Rattle.rule_config.specs.Config.{config_of}
use Rattle.rule_config.specs.declared.config.ConfigFault.{ConfigFault}
use Rattle.stickd_input.specs.declared.all_faults.Found.{Found}

-- a text with a space in place of each byte of the line that stands behind so many others; the line's end stays
abbrev pub blank_behind : ℕ → List ℕ → List ℕ
blank_behind others [] = []
blank_behind zero (b ∷ bs) = if b == 10 then b ∷ bs else 32 ∷ blank_behind zero bs
blank_behind (suc others) (b ∷ bs) = b ∷ blank_behind (if b == 10 then others else suc others) bs

-- a text whose line of this number, from 1, is blank
unfoldable pub blanked : ℕ → List ℕ → List ℕ
blanked number text = blank_behind (number - 1) text

-- none of a text that is read; else its fault, and behind it those of the text whose faulty line is blank
abbrev pub and_later : (List ℕ → List ConfigFault) → List ℕ → Result Config (ℕ × Fault) → List ConfigFault
and_later later text (Ok config) = []
and_later later text (Err (line, fault)) = record { line = line; kind = Wrong fault } ∷ later (blanked line text)

-- at most so many faults of a text: the one that reading gives, and behind it those of the text with that line blank
unfoldable pub first_faults : ℕ → List ℕ → List ConfigFault
first_faults zero text = []
first_faults (suc most) text = and_later (first_faults most) text (config_of text)

-- the faults of a text, one for each of its lines at most
abbrev pub faults_of : List ℕ → List ConfigFault
faults_of text = first_faults (length (lines_of text)) text

-- what is found of these faults, perhaps up to a line for which memory was short: all; or else those in front
abbrev pub FindsUntil : List ConfigFault → List ConfigFault → Option ℕ → Type 0
FindsUntil faults found None = found ≡ faults
FindsUntil faults found (Some line) = (later : List ConfigFault) × (faults ≡ found ++ later)

abbrev pub Finds : List ConfigFault → Found → Type 0
Finds faults found = FindsUntil faults found.faults found.short
