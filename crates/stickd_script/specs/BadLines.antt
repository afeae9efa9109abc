-- Which lines of a script are bad, and what is noted of them.
use Rattle.std.specs.Prelude.{◌≡◌, ℕ, Bool, true, false, is_none, Option, List, [], ◌∷◌, ◌++◌, take, length, if◌then◌else◌}
use Rattle.base_lines.specs.Line.{held}
use Rattle.base_lines.specs.Parts.{parts, is_line_end}
use Rattle.rule_addresses.specs.Addresses.{address_of}
use Rattle.table_cli.specs.States.{more}
use Rattle.rule_model.specs.declared.sections.Setup.{Setup}
use Rattle.stickd_script.specs.Guests.{ScriptState}
use Rattle.stickd_script.specs.Start.{start}
use Rattle.stickd_script.specs.Script.{Line, Empty, Bad, Commands, Open, Close, LineSays, Says, Stops, bad_line, line_of}

-- a line is bad by its form, or by an address that is none
abbrev pub is_bad : Line → Bool
is_bad Empty = false
is_bad Bad = true
is_bad (Commands moment commands) = false
is_bad (Open moment id address port) = is_none (address_of address)
is_bad (Close moment id bytes_in bytes_out) = false

-- ---- which they are

-- the numbers of the bad ones among lines, behind so many others; numbers stop at 2^64 - 1
abbrev pub bad_behind : ℕ → List (List ℕ) → List ℕ
bad_behind count [] = []
bad_behind count (line ∷ lines) =
    if is_bad (line_of (held line)) then more count 1 ∷ bad_behind (more count 1) lines else bad_behind (more count 1) lines

-- those of the first lines of a script, so many
abbrev pub bad_among : ℕ → List ℕ → List ℕ
bad_among count script = bad_behind 0 (take count (parts is_line_end script))

-- those of a whole script
abbrev pub bad_lines : List ℕ → List ℕ
bad_lines script = bad_behind 0 (parts is_line_end script)

-- ---- what is noted

-- the first ten, and how many there are, up to 2^64 - 1
pub record Noted : Type 0 where
  pub first : List ℕ
  pub count : ℕ

abbrev pub noted : List ℕ → Noted
noted numbers = record { first = take 10 numbers; count = more 0 (length numbers) }

-- one more
abbrev pub with_bad : ℕ → Noted → Noted
with_bad number old = record { first = take 10 (old.first ++ number ∷ []); count = more old.count 1 }

-- what a script works on, how many of its lines were served, and what is noted of them
pub record Noting : Type 0 where
  pub script : ScriptState
  pub lines : ℕ
  pub bad : Noted

-- before the first line of a script
abbrev pub noting_at : ScriptState → Noting
noting_at script = record { script = script; lines = 0; bad = noted [] }

abbrev pub beginning : Setup → Noting
beginning setup = noting_at (start setup)

-- what is noted behind a line
abbrev pub bad_after : Option (List ℕ) → ℕ → Noted → Noted
bad_after line lines bad = if is_bad (line_of line) then with_bad (more lines 1) bad else bad

-- a line that is served is noted; one whose answer stops isn't
abbrev pub SaysNoting : Noting → Option (List ℕ) → List ℕ → Noting → Type 0
SaysNoting old line text new = Says old.script line text new.script × (new.lines ≡ more old.lines 1) × (new.bad ≡ bad_after line old.lines old.bad)

abbrev pub StopsNoting : Noting → Option (List ℕ) → List ℕ → Noting → Type 0
StopsNoting old line text new = Stops old.script line text new.script × (new.lines ≡ old.lines) × (new.bad ≡ old.bad)

-- ---- the law

-- what is noted is answered `bad line`, and changes nothing
abbrev pub BadLineLaw : Type 0
BadLineLaw = (line : Line) (old : ScriptState) (text : List ℕ) (new : ScriptState) → is_bad line ≡ true → LineSays line old text new → (text ≡ bad_line) × (new ≡ old)
