-- What a `Block` owns and lends.
use Rattle.std.specs.Prelude.{ℕ, ◌+◌, ◌*◌, ◌^◌, List, length, Option, Some, None}
use Rattle.std.specs.Coded.{coded_option}
use base.Fml.{Fml, Lft, Share, fsep, flt, ftrue, ffalse, froom}
use base.Fraction.{full_share}
use mir.Syntax.{Ty}
use mir.Raw.{raw}
use denote.RattleType.{RattleType}
use denote.RawPtr.{Ptr, block_ptr, null_ptr, block_of, count_of, in_block}
use denote.Memory.{each_shared, lone, part_at, shared_of}
use denote.Sharing.{beside, nothing, said}
use types.SemTy.{SemTy}
use types.Share.{Parts, parts}
use Rattle.std.specs.Mem.{type_size}
use Rattle.std.specs.Allocator.{array_of}

-- so many bytes fit a block, and no more places than that are in it
abbrev pub bounds : (R : RattleType) → ℕ → List (Option R.Denot) → Fml
bounds R capacity xs = fsep (flt (capacity * type_size R) (2 ^ 63)) (flt (length xs) (capacity + 1))

-- what lies at a place: a value, or room for one
abbrev pub place_at : (R : RattleType) → Share → Option R.Denot → ℕ → ℕ → Fml
place_at R q None b o = froom (raw (lone R.mir)) b o
place_at R q (Some x) b o = part_at R q x b o

abbrev pub a_place : RattleType → SemTy
a_place R = record { rep = Option R.Denot; coded = coded_option R.coded; size = type_size R; own_at = place_at R full_share }

abbrev pub place_parts : (R : RattleType) → Parts (a_place R)
place_parts R = record { part = place_at R }

-- these places lie side by side from here on
abbrev pub places : (R : RattleType) → List (Option R.Denot) → ℕ → ℕ → Fml
places R = parts (a_place R) (place_parts R) full_share

abbrev pub places_at : (R : RattleType) → Ptr → List (Option R.Denot) → Fml
places_at R (block_ptr b o) xs = places R xs b o
places_at R null_ptr xs = ffalse

-- the places, and the right to free the block
abbrev pub block_owns : (Ty → Ptr → Fml) → (R : RattleType) → Ptr → ℕ → List (Option R.Denot) → Fml
block_owns token R p capacity xs = fsep (bounds R capacity xs) (fsep (places_at R p xs) (token (array_of R capacity) p))

-- what a `&` to a place holds: a `&` to its value
abbrev pub place_lent : (R : RattleType) → Option R.Denot → ℕ → ℕ → Lft → Fml
place_lent R None b o = nothing
place_lent R (Some x) b o = shared_of R x b o

abbrev pub places_lent : (R : RattleType) → Ptr → List (Option R.Denot) → Lft → Fml
places_lent R p xs = beside (said (in_block p ftrue)) (each_shared xs (place_lent R) (type_size R) (block_of p) (count_of p))

-- what a `&` to a block holds
abbrev pub block_lends : (R : RattleType) → Ptr → ℕ → List (Option R.Denot) → Lft → Fml
block_lends R p capacity xs = beside (said (bounds R capacity xs)) (places_lent R p xs)
