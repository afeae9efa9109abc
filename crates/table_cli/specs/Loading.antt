-- What loading a saved file does to tables.
use Rattle.std.specs.Prelude.{◌≡◌, ◌≢◌, ◌⊎◌, ℕ, ◌+◌, ◌-◌, Bool, true, false, Option, Some, None, List, [], ◌∷◌, ◌++◌, codes, if◌then◌else◌}
use Rattle.std.specs.Str.{bytes_eq}
use Rattle.base_lines.specs.Chain.{StopsIn}
use Rattle.base_lines.specs.Parts.{is_line_end, parts}
use Rattle.shard_book.specs.NamedTables.{NamedState}
use Rattle.table_cli.specs.Answers.{Answers, AnswersLine, commands_of}
use Rattle.table_cli.specs.Shards.{Answering, Refusing}
use Rattle.table_cli.specs.States.{CommandState, Showing}
use Rattle.table_cli.specs.Lives.{age, goes_on_at}
use Rattle.table_texts.specs.Form.{form_of}
use Rattle.table_texts.specs.Seen.{words_of}
use Rattle.table_cli.specs.SavedLines.{Fault, Answered, NoRoom, NoMemory, FaultAt, Line, Passed, Makes, Wrong, line_of}
use Rattle.table_cli.specs.SavedEnd.{judged}
use Rattle.table_cli.specs.Room.{LooksOf}
use Rattle.table_cli.specs.declared.room.Room.{Room}
use Rattle.table_cli.specs.declared.room.Room.TheVariants.{Free, Taken, Unknown}
use Rattle.table_cli.specs.declared.misfits.Misfits.{Misfits}
use Rattle.table_cli.specs.declared.misfits.Misfits.TheVariants.{Refused, Skipped}

-- the clock of a line stands at its moment
abbrev pub standing : Showing ℕ
standing old moment new = (moment ≡ old) × (new ≡ old)

abbrev pub at_moment : {S : Type 0} → ℕ → List (NamedState S) → CommandState S ℕ
at_moment moment tables = record { tables = tables; clock = moment }

-- the life that the table of a name gives, if there is one and it gives one
abbrev pub life_in : {S : Type 0} → List ℕ → List (NamedState S) → Option ℕ
life_in name [] = None
life_in name (table ∷ tables) = if bytes_eq table.name name then table.spec.expire else life_in name tables

-- the moment at which an entry was refreshed that has so many ms left
abbrev pub moment_of : {S : Type 0} → ℕ → List ℕ → List (NamedState S) → ℕ
moment_of left name tables = goes_on_at tables - age (life_in name tables) left

-- the first line of a text
abbrev pub first_of : List (List ℕ) → List ℕ
first_of [] = []
first_of (line ∷ lines) = line

abbrev pub first_line : List ℕ → List ℕ
first_line text = first_of (parts is_line_end text)

-- a command that made its entry is answered an empty line
abbrev pub IsFault : List ℕ → List ℕ → Option Fault → Type 0
IsFault command text None = text ≡ codes "\n"
IsFault command text (Some fault) = (text ≢ codes "\n") × (fault ≡ Answered command (first_line text))

-- ---- lines that are skipped

-- whether a line that comes to this fault is skipped: one whose entry has no place always, any other where that is asked for; want of
-- memory ends loading
abbrev pub is_skipped : Misfits → Fault → Bool
is_skipped misfits (NoRoom name) = true
is_skipped misfits NoMemory = false
is_skipped Skipped fault = true
is_skipped Refused fault = false

abbrev pub IsPassed : Misfits → Option Fault → Type 0
IsPassed misfits None = Unit {0}
IsPassed misfits (Some fault) = is_skipped misfits fault ≡ true

-- loading ends with the fault of a line; or without memory to note it
abbrev pub Ends : Misfits → Option Fault → Fault → Type 0
Ends misfits None fault = ⊥
Ends misfits (Some found) fault = (fault ≡ NoMemory) ⊎ ((fault ≡ found) × (is_skipped misfits found ≡ false))

abbrev pub noted : ℕ → Option Fault → List FaultAt
noted number None = []
noted number (Some fault) = record { line = number; fault = fault } ∷ []

module _ {S : Type 0} (answers : Answering S) (refuses : Refusing S) where
  -- a command is answered this text at a moment, the whole of it or a part
  abbrev pub IsAnswered : ℕ → List (NamedState S) → List ℕ → List ℕ → List (NamedState S) → Type 0
  IsAnswered moment old command text new = AnswersLine answers refuses standing (at_moment moment old) command text (at_moment moment new)

  abbrev pub StopsShort : ℕ → List (NamedState S) → List ℕ → List (NamedState S) → Type 0
  StopsShort moment old command new =
      (count : ℕ) × (text : List ℕ) × StopsIn (Answers answers refuses standing) (at_moment moment old) (commands_of command) count text (at_moment moment new)

  -- the command of an entry is answered at a moment; memory may be short for the answer, or for telling it
  abbrev pub Commands : ℕ → List (NamedState S) → List ℕ → Option Fault → List (NamedState S) → Type 0
  Commands moment old command end new =
      ((text : List ℕ) × IsAnswered moment old command text new × (IsFault command text end ⊎ (end ≡ Some NoMemory)))
      ⊎ (StopsShort moment old command new × (end ≡ Some NoMemory))

  -- the entry is made where its shard has a place for it
  abbrev pub MakesIn : Room → List ℕ → ℕ → List (NamedState S) → List ℕ → Option Fault → List (NamedState S) → Type 0
  MakesIn Free name moment old command end new = Commands moment old command end new
  MakesIn Taken name moment old command end new = (end ≡ Some (NoRoom name)) × (new ≡ old)
  MakesIn Unknown name moment old command end new = (end ≡ Some NoMemory) × (new ≡ old)

  -- a line may come to this fault, if any, and leave `new`; its shard is asked first whether it has a place for the entry
  abbrev pub Loads : List (NamedState S) → Line → Option Fault → List (NamedState S) → Type 0
  Loads old Passed end new = (end ≡ None) × (new ≡ old)
  Loads old (Wrong fault) end new = (end ≡ Some fault) × (new ≡ old)
  Loads old (Makes left name command) end new =
      (room : Room) × (mid : List (NamedState S)) × LooksOf answers refuses (moment_of left name old) (form_of (words_of command)) old room mid
      × MakesIn room name (moment_of left name old) mid command end new

  -- all lines are loaded, one after another, from the one of this number on; those that are skipped are noted behind those before
  abbrev pub LoadsAll : Misfits → ℕ → List (NamedState S) → List FaultAt → List (List ℕ) → List FaultAt → List (NamedState S) → Type 0
  LoadsAll misfits number old before [] skipped new = (skipped ≡ before) × (new ≡ old)
  LoadsAll misfits number old before (line ∷ lines) skipped new =
      (mid : List (NamedState S)) × (end : Option Fault) × Loads old (line_of line) end mid × IsPassed misfits end
      × LoadsAll misfits (number + 1) mid (before ++ noted number end) lines skipped new

  -- the line of this number comes to this fault, and those before it are loaded
  abbrev pub FailsAt : Misfits → ℕ → List (NamedState S) → List (List ℕ) → FaultAt → List (NamedState S) → Type 0
  FailsAt misfits number old [] found new = ⊥
  FailsAt misfits number old (line ∷ lines) found new =
      ((end : Option Fault) × Loads old (line_of line) end new × (found.line ≡ number) × Ends misfits end found.fault)
      ⊎ ((mid : List (NamedState S)) × (end : Option Fault) × Loads old (line_of line) end mid × IsPassed misfits end × FailsAt misfits (number + 1) mid lines found new)

-- the lines of a text
abbrev pub lines_of : List ℕ → List (List ℕ)
lines_of text = parts is_line_end text

-- ---- a whole file

-- a file that isn't whole is refused before anything is asked; else the fault is that of a line
abbrev pub IsRefused : {S : Type 0} → Answering S → Refusing S → Misfits → List (NamedState S) → List ℕ → FaultAt → List (NamedState S) → Type 0
IsRefused answers refuses misfits old text found new =
    ((judged text ≡ Some found) × (new ≡ old)) ⊎ ((judged text ≡ None) × FailsAt answers refuses misfits 1 old (lines_of text) found new)

-- a whole file's lines are loaded, but for those that are skipped
pub record IsLoaded {S : Type 0} (answers : Answering S) (refuses : Refusing S) (misfits : Misfits) (old : List (NamedState S)) (text : List ℕ) (skipped : List FaultAt) (new : List (NamedState S)) : Type 0 where
  pub whole : judged text ≡ None
  pub lines : LoadsAll answers refuses misfits 1 old [] (lines_of text) skipped new
