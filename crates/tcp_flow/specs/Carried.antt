-- What a direction has carried from its reader to its writer.
use Rattle.std.specs.Prelude.{◌≡◌, ◌≤◌, ◌^◌, ◌⊎◌, ℕ, List, length, take}
use Rattle.byte_ports.specs.Bytes.{Grows, IsOneMore, Takes}
use Rattle.tcp_flow.specs.declared.pumping.Ending.{Ending}
use Rattle.tcp_flow.specs.declared.pumping.Ending.TheVariants.{EndOfInput, ReadFault, WriteFault}

-- so many bytes were taken from the reader, and the first so many of them given to the writer
pub record Carried (tells : Type 0) (left-before left-after : List ℕ) (told : Type 0) (written-before written-after : List ℕ) (read written : ℕ) : Type 0 where
  pub bytes : List ℕ
  pub taken : Takes tells left-before left-after bytes
  pub size : length bytes ≡ read
  pub given : Grows told written-before written-after (take written bytes)
  pub within : written ≤ read

-- a fault comes only where a device failed, or after 2^40 reads, of which each gave a byte at least
abbrev pub Faults : Ending → ℕ → ℕ → ℕ → ℕ → ℕ → Type 0
Faults EndOfInput read reader reader-then writer writer-then = (reader-then ≡ reader) × (writer-then ≡ writer)
Faults ReadFault read reader reader-then writer writer-then = (IsOneMore reader reader-then ⊎ ((2 ^ 40 ≤ read) × (reader-then ≡ reader))) × (writer-then ≡ writer)
Faults WriteFault read reader reader-then writer writer-then = (reader-then ≡ reader) × IsOneMore writer writer-then
