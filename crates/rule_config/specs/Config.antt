-- A configuration: what all its lines say.
use Rattle.std.specs.Prelude.{◌≡◌, ◌≤◌, ◌+◌, ◌-◌, ℕ, Bool, not, ◌&&◌, is_some, Option, Some, None, Result, Ok, Err, List, [], ◌∷◌, take, length}
use Rattle.std.specs.List.{list_any, find}
use Rattle.std.specs.Str.{bytes_eq}
use Rattle.rule_model.specs.Reading.{◌>>=◌}
use Rattle.rule_model.specs.Served.{has_backend}
use Rattle.rule_model.specs.declared.sections.Section.{Section}
use Rattle.rule_model.specs.declared.sections.Config.{Config}
use Rattle.rule_model.specs.declared.faults.Fault.{Fault}
use Rattle.rule_model.specs.declared.faults.Fault.TheVariants.{UnknownTable}
use Rattle.rule_model.specs.declared.faults.ReadError.{ReadError}
use Rattle.rule_model.specs.declared.faults.ReadError.TheVariants.{OutOfMemory, Wrong}
use Rattle.rule_words.specs.Lines.{lines_of}
use Rattle.rule_config.specs.Lines.{with_line, sections_of}
use Rattle.rule_config.specs.declared.reading.Place.TheVariants.{Outside}
use Rattle.rule_config.specs.declared.needs.Needed.{Needed}
use Rattle.rule_config.specs.declared.needs.Needed.TheVariants.{Table, Backend}
use Rattle.rule_config.specs.declared.needs.Need.{Need}
use Rattle.rule_config.specs.declared.reading.Reading.{Reading}
use Rattle.rule_config.specs.declared.config.ConfigFault.{ConfigFault}

-- before the first line
abbrev pub nothing_read : Reading
nothing_read = record { sections = []; place = Outside; warnings = []; needs = [] }

-- a fault with its line
abbrev pub at_line : {X : Type 0} → ℕ → Result X Fault → Result X (ℕ × Fault)
at_line number (Ok x) = Ok x
at_line number (Err fault) = Err (number, fault)

-- line by line, the first with this number; or the first fault, with its line
unfoldable pub read_from : ℕ → Reading → List (List ℕ) → Result Reading (ℕ × Fault)
read_from number read [] = Ok read
read_from number read (line ∷ lines) = at_line number (with_line number read line) >>= (λ next. read_from (number + 1) next lines)

-- what these lines, numbered from 1, say
abbrev pub read_of : List (List ℕ) → Result Reading (ℕ × Fault)
read_of lines = read_from 1 nothing_read lines

-- whether a section declares it
abbrev pub is_declared : List Section → Needed → Bool
is_declared sections (Table name) = list_any (λ section. is_some section.table && bytes_eq section.name name) sections
is_declared sections (Backend name) = list_any (λ section. has_backend section.kind && bytes_eq section.name name) sections

-- the first line that needs what no section declares
abbrev pub first_unmet : Reading → Option Need
first_unmet read = find (λ need. not (is_declared (sections_of read) need.what)) read.needs

abbrev pub config_with : Reading → Option Need → Result Config (ℕ × Fault)
config_with read (Some need) = Err (need.line, UnknownTable)
config_with read None = Ok (record { sections = sections_of read; warnings = read.warnings })

-- what was read of all lines
abbrev pub whole : Reading → Result Config (ℕ × Fault)
whole read = config_with read (first_unmet read)

-- the configuration that a text says, or its first fault and where that is
unfoldable pub config_of : List ℕ → Result Config (ℕ × Fault)
config_of text = read_of (lines_of text) >>= whole

-- ---- what a reader answers

-- a line to which reading comes: those before it have no fault
abbrev pub IsReached : List (List ℕ) → ℕ → Type 0
IsReached lines number = (1 ≤ number) × (number ≤ length lines) × ((read : Reading) × (read_of (take (number - 1) lines) ≡ Ok read))

-- the first fault with its line; or a growth was refused, with the line in hand
abbrev pub FailsAt : {X : Type 0} → List (List ℕ) → ℕ → ReadError → Result X (ℕ × Fault) → Type 0
FailsAt lines number OutOfMemory given = IsReached lines number
FailsAt lines number (Wrong fault) given = given ≡ Err (number, fault)

-- the fault behind all lines; or a growth was refused, with the last line
abbrev pub FaultBy : ℕ → ℕ → ReadError → Result Config (ℕ × Fault) → Type 0
FaultBy last number OutOfMemory given = number ≡ last
FaultBy last number (Wrong fault) given = given ≡ Err (number, fault)

-- what is answered behind all lines
abbrev pub EndsBy : ℕ → Result Config ConfigFault → Result Config (ℕ × Fault) → Type 0
EndsBy last (Ok config) given = given ≡ Ok config
EndsBy last (Err fault) given = FaultBy last fault.line fault.kind given

-- what is answered is what the text gives
abbrev pub Answers : List ℕ → Result Config ConfigFault → Type 0
Answers text (Ok config) = config_of text ≡ Ok config
Answers text (Err fault) = FailsAt (lines_of text) fault.line fault.kind (config_of text)
