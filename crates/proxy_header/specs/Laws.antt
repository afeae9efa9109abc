-- What the definitions come to.
use Rattle.std.specs.Prelude.{◌≡◌, ◌≢◌, ℕ, ◌<◌, ◌≤◌, ◌^◌, List, ◌++◌, length, take, Option, Some, None}
use Rattle.rule_addresses.specs.Laws.{IsAddress}
use Rattle.proxy_header.specs.declared.ends.Ends.{Ends}
use Rattle.proxy_header.specs.declared.ends.Heard.TheVariants.{Unfinished, Told}
use Rattle.proxy_header.specs.declared.family.Family.{Family}
use Rattle.proxy_header.specs.declared.writing.Version.{Version}
use Rattle.proxy_header.specs.Header.{HasRoom, heard}
use Rattle.proxy_header.specs.Written.{family_of, written}

-- what was said is said, whatever follows
abbrev pub HeardStaysLaw : Type 0
HeardStaysLaw = (bytes more : List ℕ) → heard bytes ≢ Unfinished → heard (bytes ++ more) ≡ heard bytes

-- what is unfinished is below 4,096 bytes; a header that is told is there whole, and has no more
abbrev pub RoomLaw : Type 0
RoomLaw = (bytes : List ℕ) → HasRoom (length bytes) (heard bytes)

-- a header that is told is unfinished before its last byte
abbrev pub CutLaw : Type 0
CutLaw = (bytes : List ℕ) (whole : ℕ) (ends : Option Ends) → heard bytes ≡ Told whole ends → (count : ℕ) → count < whole → heard (take count bytes) ≡ Unfinished

-- ends that there are: two addresses, and two ports of 16 bits
pub record IsEnds (ends : Ends) : Type 0 where
  pub source : IsAddress ends.source
  pub destination : IsAddress ends.destination
  pub source_port : ends.source_port < 2 ^ 16
  pub destination_port : ends.destination_port < 2 ^ 16

-- what a header tells of ends: those of one family
abbrev pub told_in : Option Family → Ends → Option Ends
told_in None ends = None
told_in (Some family) ends = Some ends

-- what is written is read, whatever follows: the ends, or none where they are of two families
abbrev pub WrittenLaw : Type 0
WrittenLaw = (version : Version) (ends : Ends) (more : List ℕ) → IsEnds ends →
    heard (written version ends ++ more) ≡ Told (length (written version ends)) (told_in (family_of ends) ends)

-- and a header that is written has 107 bytes at most
abbrev pub WrittenRoomLaw : Type 0
WrittenRoomLaw = (version : Version) (ends : Ends) → IsEnds ends → length (written version ends) ≤ 107
