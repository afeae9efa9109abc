-- What the definition of a configuration comes to.
use Rattle.std.specs.Prelude.{◌≡◌, ◌+◌, ◌⊎◌, ◌↔◌, ℕ, false, Some, Ok, Err, List, ◌∷◌, ◌++◌, length}
use Rattle.std.specs.Str.{is_utf8}
use Rattle.rule_model.specs.declared.faults.Fault.{Fault}
use Rattle.rule_model.specs.declared.faults.Fault.TheVariants.{NotUtf8, UnknownTable}
use Rattle.rule_words.specs.Lines.{lines_of}
use Rattle.rule_config.specs.Config.{config_of, first_unmet, read_of}
use Rattle.rule_config.specs.Lines.{line_says}
use Rattle.rule_config.specs.declared.needs.Need.{Need}
use Rattle.rule_config.specs.declared.reading.Reading.{Reading}

-- the lines before the line of this number are read without fault, and this is what is wrong with it
pub record IsFirstFault (lines : List (List ℕ)) (number : ℕ) (fault : Fault) : Type 0 where
  pub before : List (List ℕ)
  pub line : List ℕ
  pub later : List (List ℕ)
  pub lines_are : lines ≡ before ++ line ∷ later
  pub counted : number ≡ length before + 1
  pub read : Reading
  pub read_is : read_of before ≡ Ok read
  pub says : line_says read line ≡ Err fault

-- all lines are read without fault, and the line of this number is the first that needs what no section declares
pub record IsFirstUnmet (lines : List (List ℕ)) (number : ℕ) (fault : Fault) : Type 0 where
  pub read : Reading
  pub read_is : read_of lines ≡ Ok read
  pub need : Need
  pub need_is : first_unmet read ≡ Some need
  pub line_is : number ≡ need.line
  pub fault_is : fault ≡ UnknownTable

-- a text has a fault exactly where it is that of its first faulty line, or where no line has one and a table or backend is missing
abbrev pub FaultLaw : Type 0
FaultLaw = (text : List ℕ) (number : ℕ) (fault : Fault) →
    (config_of text ≡ Err (number, fault)) ↔ (IsFirstFault (lines_of text) number fault ⊎ IsFirstUnmet (lines_of text) number fault)

-- a line that is not UTF-8 has that fault, whatever else is wrong with it
abbrev pub Utf8Law : Type 0
Utf8Law = (read : Reading) (line : List ℕ) → is_utf8 line ≡ false → line_says read line ≡ Err NotUtf8
