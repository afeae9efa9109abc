-- What has passed through a direction, and what moves of it do.
use Rattle.std.specs.Prelude.{◌≡◌, ◌+◌, ℕ, List, [], ◌++◌, length}
use Rattle.byte_ports.specs.Bytes.{Grows, Takes}
use Rattle.tcp_flow.specs.Carried.{Carried}
use Rattle.tcp_flow.specs.FlowState.{FlowState, kept}

-- how many bytes were read and written, and the bytes that were read and wait to be written
pub record Passage : Type 0 where
  pub read : ℕ
  pub written : ℕ
  pub rest : List ℕ

-- nothing has passed
abbrev pub nothing : Passage
nothing = record { read = 0; written = 0; rest = [] }

-- the same counts, with other bytes that wait
abbrev pub with_rest : Passage → List ℕ → Passage
with_rest passage rest = record { read = passage.read; written = passage.written; rest = rest }

-- what a flow over a buffer shows
abbrev pub passage : FlowState → List ℕ → Passage
passage flow buffer = record { read = flow.read; written = flow.written; rest = kept flow buffer }

-- bytes were taken from the reader, and a piece was given to the writer: of what had waited and the bytes behind it, the piece is the first part, and what waits now is the rest
pub record HasMoved (tells : Type 0) (left-before left-after : List ℕ) (told : Type 0) (written-before written-after : List ℕ) (old new : Passage) : Type 0 where
  pub bytes : List ℕ
  pub piece : List ℕ
  pub taken : Takes tells left-before left-after bytes
  pub given : Grows told written-before written-after piece
  pub order : old.rest ++ bytes ≡ piece ++ new.rest
  pub read : new.read ≡ old.read + length bytes
  pub written : new.written ≡ old.written + length piece

-- a move and one after it are one
abbrev pub JoinLaw : Type 0 → Type 0 → Type 0
JoinLaw tells told = (left mid-left left-after written mid-written written-after : List ℕ) (old now new : Passage)
    → HasMoved tells left mid-left told written mid-written old now → HasMoved tells mid-left left-after told mid-written written-after now new
    → HasMoved tells left left-after told written written-after old new

-- what has moved since nothing had passed: what was written is the first part of what was read, and where nothing waits all of it
abbrev pub PrefixLaw : Type 0 → Type 0 → Type 0
PrefixLaw tells told = (left left-after written written-after : List ℕ) (new : Passage)
    → HasMoved tells left left-after told written written-after nothing new
    → Carried tells left left-after told written written-after new.read new.written × (new.rest ≡ [] → new.written ≡ new.read)
