-- How many admitted connections hold one key.
use Rattle.std.specs.Prelude.{◌≡◌, ℕ, ◌≤◌, nat_eq, Bool, true, false, ◌&&◌, Option, Some, None, List, count_by, length, slice_get}
use Rattle.std.specs.Option.{option_map_or, option_and_then}
use Rattle.stick_key.specs.Shard.{shard}
use Rattle.stick_model.specs.Key.{Key, same_key}
use Rattle.stick_model.specs.Passed.{has_passed, passing_looks}
use Rattle.stick_model.specs.Run.{events_of}
use Rattle.stick_model.specs.State.{State, empty_table, key_of}
use Rattle.shard_book.specs.BookState.{BookState, IsBook, stored_of}
use Rattle.rule_model.specs.declared.sections.Setup.{Setup}
use Rattle.rule_eval.specs.Limit.{LimitsFirst}
use Rattle.admit_core.specs.Connection.{Connection}
use Rattle.admit_core.specs.declared.need.Phase.{Phase}
use Rattle.admit_core.specs.declared.need.Phase.TheVariants.{Admitted}
use Rattle.admit_world.specs.Balance.{AreHeld}
use Rattle.admit_drive.specs.Tables.{CanOpen, TableState, book_at, shard_at}
use Rattle.admit_world.specs.World.{Elements, IsSchedule, WorldState, begun}
use Rattle.shard_port.specs.declared.reference.Reference.{Reference}
use Rattle.admit_world.specs.declared.visit.Visit.{Visit}

abbrev pub is_admitted : Phase → Bool
is_admitted Admitted = true
is_admitted phase = false

-- the key of a reference that is out
abbrev pub key_held : List TableState → Option (ℕ × Reference) → Option Key
key_held tables None = None
key_held tables (Some entry) = option_and_then (λ (state : State). key_of entry.1.ticket state.tickets) (shard_at tables entry.0 entry.1.shard)

-- whether a connection is admitted and holds a reference of the key in the table by sc0
abbrev pub is_in : ℕ → Option (ℕ × Reference) → Bool
is_in table None = false
is_in table (Some entry) = nat_eq entry.0 table

abbrev pub holds_key : List TableState → ℕ → Key → Connection Reference → Bool
holds_key tables table key connection =
    is_admitted connection.progress.phase && (is_in table connection.progress.held.sc0 && option_map_or (same_key key) (key_held tables connection.progress.held.sc0) false)

-- how many do
abbrev pub admitted_of : WorldState → ℕ → Key → ℕ
admitted_of world table key = count_by (holds_key world.tables table key) world.connections

-- ---- which references have passed

-- by the record of its book since an empty table, a reference that is out, of a key that lies on its shard, had a look whose
-- row has at most so many references
pub record HasPassed (shards limit : ℕ) (tables : List TableState) (entry : ℕ × Reference) : Type 0 where
  pub key : Key
  pub book : BookState
  pub is : IsBook book
  pub at : book_at tables entry.0 entry.1.shard ≡ Some book
  pub on_shard : entry.1.shard ≡ shard key shards
  pub since_empty : book.base ≡ empty_table book.live.spec
  pub of_key : key_of entry.1.ticket book.live.tickets ≡ Some key
  pub passed : has_passed key (passing_looks key limit (events_of (stored_of book.calls)) is.replies) (entry.1.ticket, key) ≡ true

-- ---- laws

-- whatever the schedule, the references that are out are those that connections hold, each once
abbrev pub ReferencesLaw : Type 0
ReferencesLaw = (setup : Setup) (visits : List Visit) (schedule : List (ℕ × ℕ)) (world : WorldState) (count : ℕ) → CanOpen setup → IsSchedule (length visits) schedule →
    Elements visits (begun setup visits) schedule world count → AreHeld world.tables world.connections

-- whatever the schedule, behind rules that begin by tracking the source and refusing it beyond the limit, at most so many
-- admitted connections hold any one key
abbrev pub AdmittedLimitLaw : Type 0
AdmittedLimitLaw = (setup : Setup) (visits : List Visit) (schedule : List (ℕ × ℕ)) (world : WorldState) (count : ℕ) (name : List ℕ) (table limit : ℕ) (key : Key) →
    CanOpen setup → LimitsFirst setup name table limit → IsSchedule (length visits) schedule →
    Elements visits (begun setup visits) schedule world count → admitted_of world table key ≤ limit

-- whatever the schedule, behind such rules the reference that an admitted connection holds by sc0 is one of that table, and has passed
abbrev pub AdmittedPassedLaw : Type 0
AdmittedPassedLaw = (setup : Setup) (visits : List Visit) (schedule : List (ℕ × ℕ)) (world : WorldState) (count : ℕ) (name : List ℕ) (table limit i : ℕ) (connection : Connection Reference) (entry : ℕ × Reference) →
    CanOpen setup → LimitsFirst setup name table limit → IsSchedule (length visits) schedule → Elements visits (begun setup visits) schedule world count →
    slice_get world.connections i ≡ Some connection → connection.progress.phase ≡ Admitted → connection.progress.held.sc0 ≡ Some entry →
    (entry.0 ≡ table) × HasPassed setup.shards limit world.tables entry
