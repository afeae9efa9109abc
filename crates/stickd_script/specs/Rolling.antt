-- When the tables of a script roll their books, and what stays.
use Rattle.std.specs.Prelude.{◌≡◌, ◌⊎◌, ℕ, nat_le, max, Bool, true, false, List, [], ◌∷◌, if◌then◌else◌}
use Rattle.shard_book.specs.BooksState.{BooksState}
use Rattle.shard_book.specs.Rolling.{RollsInPart, calls_counted, rolled_books}
use Rattle.shard_book.specs.declared.named.Named.{Named}
use Rattle.admit_drive.specs.Tables.{TableState, shard_at}
use Rattle.stickd_script.specs.Guests.{ScriptState}

-- ---- which tables roll

-- as many calls are recorded as the table has places, and 65,536 at least
abbrev pub roll_mark : ℕ → ℕ
roll_mark size = max size 65536

abbrev pub is_due : BooksState → Bool
is_due table = nat_le (roll_mark table.spec.size) (calls_counted table)

-- all books of a table that is due are rolled, and nothing of another table changes
abbrev pub rolled_when_due : BooksState → BooksState
rolled_when_due table = if is_due table then rolled_books table else table

abbrev pub rolled_named : Named BooksState → Named BooksState
rolled_named named = record named { keeper = rolled_when_due named.keeper }

-- a table that was due, where the roll of a book was refused
abbrev pub RefusesRoll : BooksState → BooksState → Type 0
RefusesRoll old new = (is_due old ≡ true) × RollsInPart old new

-- a table's books are rolled when it is due, or as far as there was memory; else they stay
abbrev pub TableRolls : TableState → TableState → Type 0
TableRolls old new = (new ≡ old) ⊎ ((state : BooksState) × (new ≡ record old { state = state }) × (is_due old.state ≡ true) × ((state ≡ rolled_books old.state) ⊎ RollsInPart old.state state))

-- each table of them
abbrev pub TablesRoll : List TableState → List TableState → Type 0
TablesRoll [] [] = Unit {0}
TablesRoll (old ∷ tables) (new ∷ later) = TableRolls old new × TablesRoll tables later
TablesRoll [] (new ∷ later) = ⊥
TablesRoll (old ∷ tables) [] = ⊥

-- behind a line the tables may roll; the connections that are open stay
pub record RecordsRoll (said new : ScriptState) : Type 0 where
  pub tables : TablesRoll said.tables new.tables
  pub others : new ≡ record said { tables = new.tables }

-- ---- when they are looked at

-- so many lines are served before the records are looked at again: 64, and 65,536 where the roll of a book was refused
abbrev pub lines_between : Bool → ℕ
lines_between false = 64
lines_between true = 65536

-- ---- the law

-- what is served, the open connections, and what each shard is now: its entries, its references, its clock and its count of events
pub record IsSameButRecords (said new : ScriptState) : Type 0 where
  pub setup : new.setup ≡ said.setup
  pub guests : new.guests ≡ said.guests
  pub shards : (table part : ℕ) → shard_at new.tables table part ≡ shard_at said.tables table part

-- rolls change records alone
abbrev pub RecordsLaw : Type 0
RecordsLaw = (said new : ScriptState) → RecordsRoll said new → IsSameButRecords said new
