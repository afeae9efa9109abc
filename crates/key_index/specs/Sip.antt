-- The states of SipHash-1-3, as std's hasher has them.
use Rattle.std.specs.Prelude.{ℕ, ◌+◌, List}
use Rattle.std.specs.List.{slice_index}
use Rattle.core.specs.Hash.DefaultHasher.{round, write_word, with_byte}
use Rattle.std.specs.declared.hash.DefaultHasher.{DefaultHasher}
use Rattle.std.specs.Prelude.{bit_xor}
use Rattle.key_index.specs.declared.sip.Sip.{Sip}

-- std's hasher in this state, with no byte that waits for a whole word
abbrev pub state_of : Sip → DefaultHasher
state_of s = record { v0 = s.v0; v1 = s.v1; v2 = s.v2; v3 = s.v3; tail = 0; length = 0 }

-- the hash, where this is the last word
abbrev pub finished_by : DefaultHasher → ℕ → ℕ
finished_by s last =
    let t = write_word s last in
    let u = round (round (round (record { v0 = t.v0; v1 = t.v1; v2 = bit_xor t.v2 255; v3 = t.v3; tail = t.tail; length = t.length }))) in
    bit_xor (bit_xor (bit_xor u.v0 u.v1) u.v2) u.v3

-- four bytes from i on, the lowest first
abbrev pub half_of : List ℕ → ℕ → ℕ
half_of bytes i = with_byte (with_byte (with_byte (with_byte 0 0 (slice_index bytes i)) 1 (slice_index bytes (i + 1))) 2 (slice_index bytes (i + 2))) 3 (slice_index bytes (i + 3))

-- eight bytes from i on, the lowest first
abbrev pub word_of : List ℕ → ℕ → ℕ
word_of bytes i =
    with_byte (with_byte (with_byte (with_byte (half_of bytes i) 4 (slice_index bytes (i + 4))) 5 (slice_index bytes (i + 5))) 6 (slice_index bytes (i + 6))) 7 (slice_index bytes (i + 7))
