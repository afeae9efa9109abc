-- What a turn of a direction tells, and what it leaves.
use Rattle.std.specs.Prelude.{◌≡◌, ◌<◌, ◌≤◌, ◌^◌, ◌⊎◌, ℕ, Bool, true, false, List, [], length}
use Rattle.byte_ports.specs.Bytes.{IsAtEnd, IsOneMore, Takes}
use Rattle.tcp_flow.specs.FlowState.{FlowState, Keeps}
use Rattle.tcp_flow.specs.Passage.{HasMoved, Passage, nothing, with_rest}
use Rattle.tcp_flow.specs.declared.halts.Halt.{Halt}
use Rattle.tcp_flow.specs.declared.halts.Halt.TheVariants as halts
use Rattle.tcp_flow.specs.declared.steps.Cause.TheVariants.{Memory, Read, Write}
use Rattle.tcp_flow.specs.declared.steps.Step.{Step}
use Rattle.tcp_flow.specs.declared.steps.Step.TheVariants.{Ended, Failed, WaitsToRead, WaitsToWrite, Yields}

-- what has passed through a direction, and whether no turn follows
pub record DirectionState : Type 0 where
  pub passage : Passage
  pub over : Bool

abbrev pub unbegun : DirectionState
unbegun = record { passage = nothing; over = false }

-- one that begins with bytes of ours: they wait to be written before all that its reader gives, and count as read
abbrev pub beginning : List ℕ → DirectionState
beginning first = record { passage = record { read = length first; written = 0; rest = first }; over = false }

-- a flow and the bytes of a direction between turns: what the flow keeps are these bytes; one that is over has none
pub record IsDirection (flow : FlowState) (rest : List ℕ) (over : Bool) : Type 0 where
  pub going : over ≡ false → Keeps flow → flow.end ≤ length rest
  pub gone : over ≡ true → rest ≡ []

-- no turn follows
abbrev pub is_last : Step → Bool
is_last WaitsToRead = false
is_last WaitsToWrite = false
is_last Yields = false
is_last Ended = true
is_last (Failed cause) = true

-- what becomes of the bytes that a turn read and didn't write: there are some only where the writer had no room or failed, and they are kept, or lost with the direction
abbrev pub Leaves : Step → List ℕ → List ℕ → Type 0
Leaves WaitsToRead unwritten rest = (unwritten ≡ []) × (rest ≡ [])
Leaves WaitsToWrite unwritten rest = (0 < length unwritten) × (rest ≡ unwritten)
Leaves Yields unwritten rest = (unwritten ≡ []) × (rest ≡ [])
Leaves Ended unwritten rest = (unwritten ≡ []) × (rest ≡ [])
Leaves (Failed Read) unwritten rest = (unwritten ≡ []) × (rest ≡ [])
Leaves (Failed Write) unwritten rest = (0 < length unwritten) × (rest ≡ [])
Leaves (Failed Memory) unwritten rest = (0 < length unwritten) × (rest ≡ [])

-- a turn: what was read is what was written and what was not, in this order, and the latter is kept or lost
pub record HasTurned (tells : Type 0) (left-before left-after : List ℕ) (told : Type 0) (written-before written-after : List ℕ) (old new : Passage) (step : Step) : Type 0 where
  pub unwritten : List ℕ
  pub leaves : Leaves step unwritten new.rest
  pub moved : HasMoved tells left-before left-after told written-before written-after old (with_rest new unwritten)

-- a turn behind which another may follow is a move, and loses nothing
abbrev pub GoesOnLaw : Type 0 → Type 0 → Type 0
GoesOnLaw tells told = (left left-after written written-after : List ℕ) (old new : Passage) (step : Step)
    → HasTurned tells left left-after told written written-after old new step → is_last step ≡ false
    → HasMoved tells left left-after told written written-after old new

-- exactly the device that is said to have failed did, once; the reader may also have given bytes 2^40 times in all
abbrev pub HasFailed : Step → ℕ → ℕ → ℕ → ℕ → ℕ → Type 0
HasFailed WaitsToRead read reader reader-then writer writer-then = (reader-then ≡ reader) × (writer-then ≡ writer)
HasFailed WaitsToWrite read reader reader-then writer writer-then = (reader-then ≡ reader) × (writer-then ≡ writer)
HasFailed Yields read reader reader-then writer writer-then = (reader-then ≡ reader) × (writer-then ≡ writer)
HasFailed Ended read reader reader-then writer writer-then = (reader-then ≡ reader) × (writer-then ≡ writer)
HasFailed (Failed Read) read reader reader-then writer writer-then = (IsOneMore reader reader-then ⊎ ((2 ^ 40 ≤ read) × (reader-then ≡ reader))) × (writer-then ≡ writer)
HasFailed (Failed Write) read reader reader-then writer writer-then = (reader-then ≡ reader) × IsOneMore writer writer-then
HasFailed (Failed Memory) read reader reader-then writer writer-then = (reader-then ≡ reader) × (writer-then ≡ writer)

-- why a read gave nothing: nothing is there for now, the input has ended, the read failed, or there were 2^40 reads
abbrev pub HasPaused : Type 0 → List ℕ → List ℕ → ℕ → ℕ → ℕ → Step → Type 0
HasPaused told before after failures then reads WaitsToRead = Takes told before after [] × (then ≡ failures)
HasPaused told before after failures then reads WaitsToWrite = ⊥
HasPaused told before after failures then reads Yields = ⊥
HasPaused told before after failures then reads Ended = Takes told before after [] × IsAtEnd told after × (then ≡ failures)
HasPaused told before after failures then reads (Failed Read) = Takes told before after [] × (IsOneMore failures then ⊎ ((reads ≡ 2 ^ 40) × (then ≡ failures)))
HasPaused told before after failures then reads (Failed Write) = ⊥
HasPaused told before after failures then reads (Failed Memory) = ⊥

-- where a flow stops with bytes that it keeps: where the writer had no room, or failed
abbrev pub KeepsAt : Step → FlowState → Type 0
KeepsAt WaitsToRead flow = Keeps flow → ⊥
KeepsAt WaitsToWrite flow = Keeps flow
KeepsAt Yields flow = Keeps flow → ⊥
KeepsAt Ended flow = Keeps flow → ⊥
KeepsAt (Failed Read) flow = Keeps flow → ⊥
KeepsAt (Failed Write) flow = Keeps flow
KeepsAt (Failed Memory) flow = ⊥

-- where a direction stands whose writer takes no more
abbrev pub step_of : Halt → Step
step_of halts.NotNow = WaitsToWrite
step_of halts.Failed = Failed Write
