-- How a recorded call lies in memory. No clause of a book cites this module.
use Rattle.std.specs.Prelude.{◌≡◌, ◌≤◌, ℕ, Option, None, [], ◌∷◌, length}
use Rattle.stick_model.specs.declared.events.Event.{Event}
use Rattle.stick_model.specs.declared.events.Event.TheVariants.{Get, Track, Look, Count, Release, Put, Clear, ClearWhere, Expire}
use Rattle.stick_model.specs.declared.filters.Filter.{Filter}
use Rattle.stick_model.specs.declared.filters.Filter.TheVariants.{Everything, Compare}
use Rattle.shard_book.specs.declared.brief.Brief.{Brief}
use Rattle.shard_book.specs.declared.brief.Brief.TheVariants as kept
use Rattle.shard_book.specs.RecordedState.{RecordedState}

abbrev pub recorded_as : ℕ → Event → Option ℕ → RecordedState
recorded_as seat event slot = record { seat = seat; stored = record { event = event; slot = slot } }

-- a seat's call of an event, before its reply is known
abbrev pub unanswered : ℕ → Event → RecordedState
unanswered seat event = recorded_as seat event None

-- the call with the slot that its reply told
abbrev pub with_slot : Option ℕ → RecordedState → RecordedState
with_slot slot call = recorded_as call.seat call.stored.event slot

-- the call that is kept so
abbrev pub call_in : Brief → RecordedState
call_in (kept.Get key seat now) = unanswered seat (Get now key)
call_in (kept.Track key seat slot now) = recorded_as seat (Track now key) slot
call_in (kept.Look seat ticket now) = unanswered seat (Look now ticket)
call_in (kept.Count seat ticket now act) = unanswered seat (Count now ticket act)
call_in (kept.Release seat ticket now) = unanswered seat (Release now ticket)
call_in (kept.Put key seat cell now) = unanswered seat (Put now key (cell ∷ []))
call_in (kept.Clear key seat now) = unanswered seat (Clear now key)
call_in (kept.ClearAll seat now) = unanswered seat (ClearWhere now Everything)
call_in (kept.ClearBy seat field op bound now) = unanswered seat (ClearWhere now (Compare field op bound))
call_in (kept.Expire seat now) = unanswered seat (Expire now)
call_in (kept.Whole seat slot event) = recorded_as seat event.value slot

-- a filter that takes no memory in a record: all entries, or those by a value
abbrev pub IsBriefFilter : Filter → Type 0
IsBriefFilter Everything = Unit {0}
IsBriefFilter (Compare field op bound) = Unit {0}
IsBriefFilter _ = ⊥

-- an event of a key that takes no memory in a record: the key has up to sixteen bytes, and a put has one pair
abbrev pub IsBriefKey : Event → Type 0
IsBriefKey (Get now key) = length key ≤ 16
IsBriefKey (Track now key) = length key ≤ 16
IsBriefKey (Put now key pairs) = (length key ≤ 16) × (length pairs ≡ 1)
IsBriefKey (Clear now key) = length key ≤ 16
IsBriefKey _ = ⊥

-- an event that takes no memory in a record
abbrev pub IsBrief : Event → Type 0
IsBrief (Look now ticket) = Unit {0}
IsBrief (Count now ticket act) = Unit {0}
IsBrief (Release now ticket) = Unit {0}
IsBrief (ClearWhere now filter) = IsBriefFilter filter
IsBrief (Expire now) = Unit {0}
IsBrief event = IsBriefKey event

-- only a track is told a slot
abbrev pub IsToldSlot : Event → Option ℕ → Type 0
IsToldSlot (Track now key) slot = Unit {0}
IsToldSlot event slot = slot ≡ None

-- the reply to the call may tell this slot
abbrev pub MayTell : RecordedState → Option ℕ → Type 0
MayTell call slot = IsToldSlot call.stored.event slot
