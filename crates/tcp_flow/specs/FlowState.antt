-- One direction of a connection, and what a read or a write makes of it.
use Rattle.std.specs.Prelude.{◌≡◌, ◌<◌, ◌≤◌, ◌+◌, ◌-◌, ◌*◌, ◌^◌, ◌⊎◌, ℕ, min, List, [], length, take, drop}
use Rattle.byte_ports.specs.Bytes.{Grows, IsAtEnd, IsOneMore, Takes}
use Rattle.tcp_flow.specs.declared.pumping.Ending.{Ending}
use Rattle.tcp_flow.specs.declared.pumping.Ending.TheVariants.{EndOfInput, ReadFault, WriteFault}

-- how many reads gave bytes, how many bytes were read and written, and from where to where the buffer keeps bytes that wait to be written
pub record FlowState : Type 0 where
  pub reads : ℕ
  pub read : ℕ
  pub written : ℕ
  pub start : ℕ
  pub end : ℕ

abbrev pub fresh : FlowState
fresh = record { reads = 0; read = 0; written = 0; start = 0; end = 0 }

-- one that begins with so many bytes in its buffer, as if one read had given them, if there are any
abbrev pub keeping : ℕ → FlowState
keeping count = record { reads = min count 1; read = count; written = 0; start = 0; end = count }

-- bytes wait to be written
abbrev pub Keeps : FlowState → Type 0
Keeps flow = flow.start < flow.end

-- what is kept of a buffer
abbrev pub kept : FlowState → List ℕ → List ℕ
kept flow buffer = take (flow.end - flow.start) (drop flow.start buffer)

-- the same flow, where what it keeps lies at the start of its buffer
abbrev pub from_its_start : FlowState → FlowState
from_its_start flow = record { reads = flow.reads; read = flow.read; written = flow.written; start = 0; end = flow.end - flow.start }

-- what was read is what was written and what is kept, and each read gave 1 to 65,536 bytes
pub record IsFlow (flow : FlowState) : Type 0 where
  pub order : flow.start ≤ flow.end
  pub room : flow.end ≤ 65536
  pub sum : flow.written + (flow.end - flow.start) ≡ flow.read
  pub turns : flow.reads ≤ 2 ^ 40
  pub some : flow.reads ≤ flow.read
  pub most : flow.read ≤ 65536 * flow.reads

-- one read gave bytes, and the buffer keeps them
pub record HasRead (told : Type 0) (before after : List ℕ) (old : FlowState) (buffer : List ℕ) (new : FlowState) : Type 0 where
  pub count : ℕ
  pub some : 0 < count
  pub within : count ≤ length buffer
  pub bytes : Takes told before after (take count buffer)
  pub flow : new ≡ record { reads = old.reads + 1; read = old.read + count; written = old.written; start = 0; end = count }

-- so many of the bytes that were kept are written
pub record HasWritten (told : Type 0) (before after : List ℕ) (old : FlowState) (buffer : List ℕ) (new : FlowState) : Type 0 where
  pub count : ℕ
  pub within : count ≤ old.end - old.start
  pub bytes : Grows told before after (take count (kept old buffer))
  pub flow : new ≡ record { reads = old.reads; read = old.read; written = old.written + count; start = old.start + count; end = old.end }

-- why nothing more was read: the input has ended; or the read failed, or there were 2^40 reads
abbrev pub HasStopped : Type 0 → List ℕ → List ℕ → ℕ → ℕ → ℕ → Ending → Type 0
HasStopped told before after failures then reads EndOfInput = Takes told before after [] × IsAtEnd told after × (then ≡ failures)
HasStopped told before after failures then reads ReadFault = Takes told before after [] × (IsOneMore failures then ⊎ ((reads ≡ 2 ^ 40) × (then ≡ failures)))
HasStopped told before after failures then reads WriteFault = ⊥
