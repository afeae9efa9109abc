-- Laws of steps and runs.
use Rattle.std.specs.Prelude.{◌≡◌, ℕ, ◌≤◌, ◌<◌, ◌+◌, ◌↔◌, nat_eq, List, [], ◌∷◌, ◌++◌, length, map, filter, count_by, min, max, not, ◌||◌, IfSome, true, false, IsTrue, Some, ◌⊎◌, Contains, All}
use Rattle.stick_model.specs.Key.{Key}
use Rattle.stick_model.specs.State.{State, same_ticket, key_of, refs, is_tracked, record_at, row_of, outlives, empty_table}
use Rattle.stored_data.specs.Acts.{acted, answer}
use Rattle.stored_data.specs.Data.{is_rate}
use Rattle.stored_data.specs.Stored.{IsSound}
use Rattle.stored_data.specs.declared.stored_set.Column.{Column}
use Rattle.stored_data.specs.declared.values.StoredValue.{StoredValue}
use Rattle.stored_data.specs.declared.act.Act.TheVariants.{Connection}
use Rattle.stick_model.specs.Step.{Step, put_pairs, subject_of, ticket_of}
use Rattle.stick_model.specs.Counted.{IsTallied, counted_since, steps_of}
use Rattle.stick_model.specs.Run.{Run, StoredRun, LastingRun, CanRedoAll, redone_all}
use Rattle.std.specs.List.{IsDistinct}
use Rattle.stick_model.specs.Room.{is_purged, purged, all_tracked, room_in}
use Rattle.stick_model.specs.Legal.{IsLegal, stamp_in}
use Rattle.stick_model.specs.Limits.{IsTableSpec, IsTableEvent}
use Rattle.stick_model.specs.Refusals.{has_life, IsRefused}
use Rattle.stick_model.specs.Passed.{passing_looks, passed_count}
use Rattle.stick_model.specs.declared.events.Stored.{Stored}
use Rattle.stick_model.specs.declared.events.Event.{Event}
use Rattle.stick_model.specs.declared.events.Event.TheVariants.{Track, Look, Count, Release, Put}
use Rattle.stick_model.specs.declared.replies.Reply.{Reply}
use Rattle.stick_model.specs.declared.replies.Reply.TheVariants.{Row as ARow, Tracked, Value, Released}
use Rattle.stick_model.specs.declared.replies.Refusal.{Refusal}
use Rattle.stick_model.specs.declared.replies.Refusal.TheVariants.{Memory}
use Rattle.stick_model.specs.declared.rows.Ticket.{Ticket}
use Rattle.stick_model.specs.declared.rows.Record.{Record}
use Rattle.stick_model.specs.declared.specification.Spec.{Spec}

-- at each place of a run from a legal state, at most `limit` tickets of a key are out that had, in this run, a look
-- whose row has at most `limit` references; the place is the run's end, and a run's beginning is a run
abbrev pub LimitLaw : Type 0
LimitLaw = (old : State) (events : List Event) (replies : List Reply) (new : State) (key : Key) (limit : ℕ) →
    IsLegal old → Run old events replies new → passed_count key (passing_looks key limit events replies) new ≤ limit

-- a list of stored calls has one run at most
abbrev pub OneRunLaw : Type 0
OneRunLaw = (old : State) (calls : List Stored) (replies others : List Reply) (new other : State) →
    StoredRun old calls replies new → StoredRun old calls others other → (replies ≡ others) × (new ≡ other)

-- the stored calls of a run can be made again from where it began, and then give its replies and the state after it
abbrev pub RedoLaw : Type 0
RedoLaw = (old : State) (calls : List Stored) (replies : List Reply) (new : State) →
    StoredRun old calls replies new → CanRedoAll old calls × (redone_all old calls ≡ (replies, new))

-- ---- runs

-- as many events are counted as the run has
abbrev pub CountLaw : Type 0
CountLaw = (old : State) (events : List Event) (replies : List Reply) (new : State) → Run old events replies new → new.events ≡ old.events + length events

-- a run of some events, and from where it ends one of those that follow
pub record RunsOn (old : State) (events later : List Event) (replies : List Reply) (new : State) : Type 0 where
  pub middle : State
  pub first : List Reply
  pub rest : List Reply
  pub joined : replies ≡ first ++ rest
  pub before : Run old events first middle
  pub after : Run middle later rest new

-- a run over two lists joined is a run over the one, then the other
abbrev pub JoinLaw : Type 0
JoinLaw = (old : State) (events later : List Event) (replies : List Reply) (new : State) → Run old (events ++ later) replies new ↔ RunsOn old events later replies new

-- ---- runs of stored calls

-- as many events are counted, and as many replies are told, as there are calls
abbrev pub StoredCountLaw : Type 0
StoredCountLaw = (old : State) (calls : List Stored) (replies : List Reply) (new : State) → StoredRun old calls replies new →
    (new.events ≡ old.events + length calls) × (length replies ≡ length calls)

-- a run of some stored calls, and from where it ends one of those that follow
pub record StoredRunsOn (old : State) (calls later : List Stored) (replies : List Reply) (new : State) : Type 0 where
  pub middle : State
  pub first : List Reply
  pub rest : List Reply
  pub joined : replies ≡ first ++ rest
  pub before : StoredRun old calls first middle
  pub after : StoredRun middle later rest new

-- a run over two lists of stored calls joined is a run over the one, then the other
abbrev pub StoredJoinLaw : Type 0
StoredJoinLaw = (old : State) (calls later : List Stored) (replies : List Reply) (new : State) → StoredRun old (calls ++ later) replies new ↔ StoredRunsOn old calls later replies new

-- a lasting run is a run of its stored calls, and wherever the calls before one of them lead, it is refused for want of
-- memory alone
pub record Lasts (old : State) (calls : List Stored) (replies : List Reply) (new : State) : Type 0 where
  pub run : StoredRun old calls replies new
  pub refused : (before : List Stored) (call : Stored) (later : List Stored) (first : List Reply) (middle : State) (refusal : Refusal) →
      calls ≡ before ++ call ∷ later → StoredRun old before first middle → IsRefused middle call.event refusal → refusal ≡ Memory

abbrev pub LastingLaw : Type 0
LastingLaw = (old : State) (calls : List Stored) (replies : List Reply) (new : State) → LastingRun old calls replies new → Lasts old calls replies new

-- ---- tickets

-- what becomes of the tickets that are out, as the reply tells it: one more, without that which the event gave back, or the same
abbrev pub tickets_told : Event → Reply → List (Ticket × Key) → List (Ticket × Key)
tickets_told event (Tracked ticket row) tickets = tickets ++ (ticket, row.key) ∷ []
tickets_told (Release now ticket) Released tickets = filter (λ (held : Ticket × Key). not (same_ticket ticket held.0)) tickets
tickets_told event reply tickets = tickets

-- a reply tells all that becomes of the tickets
abbrev pub TicketsLaw : Type 0
TicketsLaw = (old : State) (event : Event) (reply : Reply) (new : State) → Step old event reply new → new.tickets ≡ tickets_told event reply old.tickets

-- ---- legal states

-- a step with life left, of an event that a table takes, keeps a state legal
abbrev pub StepLegalLaw : Type 0
StepLegalLaw = (old : State) (event : Event) (reply : Reply) (new : State) → IsLegal old → IsTableEvent event → IsTrue (has_life old event) → Step old event reply new → IsLegal new

-- the empty table is legal
abbrev pub EmptyLegalLaw : Type 0
EmptyLegalLaw = (spec : Spec) → IsLegal (empty_table spec)

-- each place of a run from a legal state, of events that a table takes, is legal, where the run ends within the life
abbrev pub RunLegalLaw : Type 0
RunLegalLaw = (old : State) (events later : List Event) (replies : List Reply) (new : State) → IsLegal old → All IsTableEvent events → (on : RunsOn old events later replies new) →
    new.events + length new.tickets ≤ new.spec.life → IsLegal on.middle

-- ---- tracked entries

-- what an event makes of the data of its key
abbrev pub values_after : ℕ → Event → List StoredValue → List StoredValue
values_after clock (Track now key) values = acted values clock Connection
values_after clock (Count now ticket act) values = acted values clock act
values_after clock (Put now key pairs) values = put_pairs pairs values
values_after clock event values = values

-- the key has a record before and after: the same, or, where the event is of the key, with the data that the event makes of it
pub record IsKept (old : State) (event : Event) (new : State) (key : Key) : Type 0 where
  pub before : Record
  pub after : Record
  pub was : record_at key old.records ≡ Some before
  pub is : record_at key new.records ≡ Some after
  pub kept : (after ≡ before) ⊎ ((subject_of old event ≡ Some key) × (after.values ≡ values_after new.clock event before.values))

-- a tracked entry is never lost: no event purges, expires or clears it, and none but its own changes it
abbrev pub NeverLostLaw : Type 0
NeverLostLaw = (old : State) (event : Event) (reply : Reply) (new : State) (key : Key) → IsLegal old → Step old event reply new → IsTrue (is_tracked key old.tickets) → IsKept old event new key

-- ---- rates

-- in every run from the empty table, a rate's tally is the tally of what the run counted in its column since the record was made
abbrev pub TallyLaw : Type 0
TallyLaw = (spec : Spec) (events : List Event) (replies : List Reply) (new : State) (run : Run (empty_table spec) events replies new) (key : Key) (found : Record) (column : Column) →
    IsSound spec.columns → Contains spec.columns column → IsTrue (is_rate column.datum) → record_at key new.records ≡ Some found →
    IsTallied found.values column (counted_since key column.datum (steps_of (empty_table spec) events replies new run)) new.clock

-- ---- purges

-- the records that are purged: each is untracked, and was refreshed before each untracked one that is left; they are as
-- many as are to be purged, or all untracked ones where these are fewer, and so there is one where some record is untracked
pub record PurgesOldest (purge : ℕ) (tickets : List (Ticket × Key)) (records : List (Key × Record)) : Type 0 where
  pub untracked : (gone : Key × Record) → is_purged purge tickets records gone ≡ true → is_tracked gone.0 tickets ≡ false
  pub oldest : (gone left : Key × Record) → is_purged purge tickets records gone ≡ true → is_tracked left.0 tickets ≡ false → is_purged purge tickets records left ≡ false → gone.1.stamp < left.1.stamp
  pub few : length records ≤ length (purged purge tickets records) + purge
  pub exact : length records ≡ length (purged purge tickets records) + min purge (count_by (λ (entry : Key × Record). not (is_tracked entry.0 tickets)) records)
  pub some : all_tracked tickets records ≡ false → 1 ≤ purge → length (purged purge tickets records) + 1 ≤ length records

-- of records whose stamps differ, as those of every legal state, a purge takes the oldest untracked ones
abbrev pub PurgeLaw : Type 0
PurgeLaw = (purge : ℕ) (tickets : List (Ticket × Key)) (records : List (Key × Record)) → IsDistinct nat_eq (map stamp_in records) → PurgesOldest purge tickets records

-- a full table that may purge is left without as many of its oldest untracked records as it is made with
abbrev pub RoomLaw : Type 0
RoomLaw = (spec : Spec) (tickets : List (Ticket × Key)) (records : List (Key × Record)) → IsTableSpec spec →
    spec.size ≤ length records → spec.nopurge ≡ false → all_tracked tickets records ≡ false → room_in spec tickets records ≡ Some (purged spec.purge tickets records)

-- ---- references

-- what an event of a reference is answered from the entry of its key
abbrev pub IsAnswered : State → Key → Record → Event → Reply → Type 0
IsAnswered old key found (Look now ticket) reply = reply ≡ ARow (row_of old.spec.columns (max old.clock now) (refs key old.tickets) key found)
IsAnswered old key found (Count now ticket act) reply = reply ≡ Value (answer found.values (max old.clock now) act)
IsAnswered old key found (Release now ticket) reply = reply ≡ Released
IsAnswered old key found event reply = ⊥

-- the key has an entry and a reference, and the event is answered from the entry
pub record IsAnsweredFrom (old : State) (key : Key) (event : Event) (reply : Reply) : Type 0 where
  pub found : Record
  pub is : record_at key old.records ≡ Some found
  pub held : 1 ≤ refs key old.tickets
  pub answered : IsAnswered old key found event reply

-- in a legal state a ticket that is out has an entry, and what is asked of it is answered from that
abbrev pub ReferenceLaw : Type 0
ReferenceLaw = (old : State) (event : Event) (reply : Reply) (new : State) (ticket : Ticket) (key : Key) → IsLegal old → Step old event reply new →
    ticket_of event ≡ Some ticket → key_of ticket old.tickets ≡ Some key → IsAnsweredFrom old key event reply

-- ---- expiry

-- in every run from the empty table, each record is tracked or its date is still to come
abbrev pub ExpiryLaw : Type 0
ExpiryLaw = (spec : Spec) (events : List Event) (replies : List Reply) (new : State) (key : Key) (found : Record) → IfSome spec.expire (λ life. 1 ≤ life) →
    Run (empty_table spec) events replies new → record_at key new.records ≡ Some found → IsTrue (is_tracked key new.tickets || outlives new.clock found)
