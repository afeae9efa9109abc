-- What a contract sees of `Images`.
use Rattle.std.specs.Prelude.{◌≡◌, ℕ, zero, suc, ◌-◌, ◌+◌, ◌*◌, ◌<◌, ◌≤◌, ◌^◌, ◌⊎◌, Bool, true, false, length, List, replicate, get_or, slice_get, slice_set, Option, Some, None, unwrap_or}
use Rattle.std.specs.Option.{option_map}
use Rattle.std.specs.List.{AllByRecursion}
use Rattle.stick_pooled.specs.Cut.{words_at}
use Rattle.stick_pooled.specs.declared.slot_images.Image.{Image}

-- what was kept of a slot's entry: its image, and the words of its data
pub record Picture : Type 0 where
  pub image : Image
  pub words : List ℕ

-- how many words a picture has, for how many more there is room, and for each slot no picture, that it was empty, or a
-- picture of its entry
pub record Album : Type 0 where
  pub width : ℕ
  pub room : ℕ
  pub places : List (Option (Option Picture))

abbrev pub album : ℕ → ℕ → List (Option (Option Picture)) → Album
album width room places = record { width = width; room = room; places = places }

-- no picture of so many slots, with room for so many
abbrev pub no_pictures : ℕ → ℕ → ℕ → Album
no_pictures size width room = album width room (replicate size None)

-- what is kept of the slot
abbrev pub picture_at : Album → ℕ → Option (Option Picture)
picture_at a slot = get_or a.places slot None

-- what is kept of a slot that was empty until now, if nothing was kept of it before
abbrev pub emptied : Option (Option Picture) → Option (Option Picture)
emptied None = Some None
emptied (Some before) = Some before

abbrev pub with_empty : Album → ℕ → Album
with_empty a slot = album a.width a.room (slice_set a.places slot (emptied (picture_at a slot)))

-- what is kept of a slot whose entry had these until now, if nothing was kept of it before
abbrev pub pictured : Image → List ℕ → Option (Option Picture) → Option (Option Picture)
pictured image words None = Some (Some (record { image = image; words = words }))
pictured image words (Some before) = Some before

-- for how many more there is room then
abbrev pub room_after : Option (Option Picture) → ℕ → ℕ
room_after None room = room - 1
room_after (Some before) room = room

abbrev pub with_picture : Album → ℕ → Image → List ℕ → Album
with_picture a slot image words = album a.width (room_after (picture_at a slot) a.room) (slice_set a.places slot (pictured image words (picture_at a slot)))

-- what is kept of a slot that loses its key, which a picture gets if it has none
abbrev pub keyed_image : List ℕ → Image → Image
keyed_image key image = record image { key = Some (unwrap_or image.key key) }

abbrev pub keyed : List ℕ → Option (Option Picture) → Option (Option Picture)
keyed key None = None
keyed key (Some None) = Some None
keyed key (Some (Some p)) = Some (Some (record p { image = keyed_image key p.image }))

abbrev pub with_key : Album → ℕ → List ℕ → Album
with_key a slot key = album a.width a.room (slice_set a.places slot (keyed key (picture_at a slot)))

-- the slot has a picture
pub record HasPicture (a : Album) (slot : ℕ) : Type 0 where
  pub inside : slot < length a.places
  pub picture : Picture
  pub there : picture_at a slot ≡ Some (Some picture)

-- it was kept of the slot that it was empty
abbrev pub is_empty : Option (Option Picture) → Bool
is_empty (Some None) = true
is_empty _ = false

-- ---- how it lies in lists: a place names no image, one of these by its number from 1 on, or, beyond them, that the slot was empty
abbrev pub picture_of : List Image → List ℕ → ℕ → ℕ → Option (Option Picture)
picture_of images words width zero = None
picture_of images words width (suc at) = Some (option_map (λ (image : Image). record { image = image; words = words_at words at width }) (slice_get images at))

-- a place names nothing, one of so many images, or that the slot was empty
abbrev pub IsPlace : ℕ → ℕ → Type 0
IsPlace count place = (place ≤ count) ⊎ (place ≡ 4294967295)

-- the places name images that are there, each image but one of them; each has its words, and there is room for so many more
pub record AreSound (places : List ℕ) (images : List Image) (words : List ℕ) (width room image_space word_space : ℕ) : Type 0 where
  pub named : AllByRecursion (IsPlace (length images)) places
  pub apart : (i j : ℕ) → get_or places i 0 ≡ get_or places j 0 → 0 < get_or places i 0 → get_or places i 0 ≤ length images → i ≡ j
  pub worded : length words ≡ length images * width
  pub few : length images + room ≤ 2 ^ 30
  pub image_space_left : length images + room ≤ image_space
  pub word_space_left : (length images + room) * width ≤ word_space
