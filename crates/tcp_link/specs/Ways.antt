-- What a turn does to one direction of a connection between sockets.
use Rattle.std.specs.Prelude.{◌≡◌, ◌+◌, ◌*◌, ◌≤◌, ℕ, Bool, true, false, ◌&&◌, ◌||◌, List, [], ◌∷◌, length, nat_le, nat_lt}
use Rattle.tcp_flow.specs.Passage.{Passage}
use Rattle.tcp_flow.specs.Turns.{HasTurned, beginning, is_last, unbegun}
use Rattle.tcp_flow.specs.declared.steps.Cause.TheVariants.{Memory, Read, Write}
use Rattle.tcp_flow.specs.declared.steps.Step.{Step}
use Rattle.tcp_flow.specs.declared.steps.Step.TheVariants.{Ended, Failed, WaitsToRead, WaitsToWrite, Yields}
use Rattle.tcp_link.specs.Aheads.{ahead_with, is_until_empty}
use Rattle.tcp_link.specs.declared.ahead.Ahead.{Ahead}
use Rattle.tcp_link.specs.declared.ahead.Ahead.TheVariants.{More}
use Rattle.tcp_link.specs.declared.way.Way.{Way}

-- nothing has passed, and nothing is known of what the sender still sends
abbrev pub unbegun_way : Way
unbegun_way = record { direction = unbegun; step = WaitsToRead; ahead = More }

-- the receiver is given bytes of ours first, which wait for room; where there are none, nothing has passed
abbrev pub greeted_way : List ℕ → Way
greeted_way [] = unbegun_way
greeted_way (byte ∷ greeting) = record { direction = beginning (byte ∷ greeting); step = WaitsToWrite; ahead = More }

-- what was read of the sender is what was written to the receiver and what waits for room; where one of them failed, or there was no memory, what was not written is lost
abbrev pub Accounts : Passage → Step → Type 0
Accounts passage WaitsToRead = (passage.written ≡ passage.read) × (passage.rest ≡ [])
Accounts passage WaitsToWrite = passage.written + length passage.rest ≡ passage.read
Accounts passage Yields = (passage.written ≡ passage.read) × (passage.rest ≡ [])
Accounts passage Ended = (passage.written ≡ passage.read) × (passage.rest ≡ [])
Accounts passage (Failed Read) = (passage.written ≡ passage.read) × (passage.rest ≡ [])
Accounts passage (Failed Write) = passage.rest ≡ []
Accounts passage (Failed Memory) = passage.rest ≡ []

-- how far it is, and whether it is over, agree with what has passed
pub record IsWay (way : Way) : Type 0 where
  pub accounts : Accounts way.direction.passage way.step
  pub over : way.direction.over ≡ is_last way.step

-- how many reads a direction makes in one turn at most, before other connections have theirs
abbrev pub reads_a_turn : ℕ
reads_a_turn = 2

-- all came and was written
abbrev pub is_end : Step → Bool
is_end WaitsToRead = false
is_end WaitsToWrite = false
is_end Yields = false
is_end Ended = true
is_end (Failed cause) = false

-- what is ahead of its sender is told: it is known from then on
abbrev pub told_also : Way → Ahead → Way
told_also way told = record way { ahead = ahead_with way.ahead told }

-- one that is over stays as it is; the others make that many reads of 65,536 bytes at most, and all of them where they have more to do. Of what sockets hold no contract tells
pub record Advances (old new : Way) : Type 0 where
  pub over : old.direction.over ≡ true → new ≡ old
  pub turned : old.direction.over ≡ false → HasTurned ⊥ [] [] ⊥ [] [] old.direction.passage new.direction.passage new.step
  pub last : old.direction.over ≡ false → new.direction.over ≡ is_last new.step
  pub yields : old.direction.over ≡ false → new.step ≡ Yields → old.direction.passage.read + reads_a_turn ≤ new.direction.passage.read
  pub most : new.direction.passage.read ≤ old.direction.passage.read + reads_a_turn * 65536
  pub read : old.direction.passage.read ≤ new.direction.passage.read
  pub written : old.direction.passage.written ≤ new.direction.passage.written
  pub ahead : new.ahead ≡ old.ahead

-- whether more was read, and whether more was written
abbrev pub has_read : Way → Way → Bool
has_read old new = nat_lt old.direction.passage.read new.direction.passage.read

abbrev pub has_written : Way → Way → Bool
has_written old new = nat_lt old.direction.passage.written new.direction.passage.written

-- whether more is written than so much, and perhaps not for the first time: so much had been read before, or as many are written as one read takes at most, or reads stop short
abbrev pub has_written_more_than : ℕ → ℕ → Way → Bool
has_written_more_than written read way = nat_lt written way.direction.passage.written && (nat_lt 0 read || nat_le 65536 way.direction.passage.written || is_until_empty way.ahead)

-- the same since an earlier moment
abbrev pub has_written_more : Way → Way → Bool
has_written_more old new = has_written_more_than old.direction.passage.written old.direction.passage.read new
