-- On the images of slots: what their places name, and what one image more leaves.
use Rattle.std.proofs.Common.{◌≡◌, ◌≢◌, ℕ, zero, suc, ◌+◌, ◌*◌, ◌-◌, ◌<◌, ◌≤◌, ◌^◌, ◌⊎◌, inl, inr, List, [], ◌∷◌, ◌++◌, length, get_or, set, take, drop, map, replicate, Option, Some, None, refl, sym, ap, subst, ◌∙◌, arith, length-append, drop_at}
use Rattle.std.specs.List.{AllByRecursion, slice_get}
use Rattle.std.specs.Option.{option_map}
use Rattle.std.proofs.Math.Nat.{suc-mul}
use Rattle.std.proofs.Math.ListN.{get_or-map}
use Rattle.std.proofs.lemmas.Nat.{mul-le}
use Rattle.std.proofs.lemmas.Bool.{cases_eq}
use Rattle.std.proofs.lemmas.List.{map-set, length-map, length-set, set-get_or, get_or-set_same, get_or-set_other, get_or-map as map-get_or, ext_get_or, take_all, drop-append-le, take-append-le, length-drop}
use Rattle.std.proofs.lemmas.Option.{slice_get_past, slice_get_within, slice_get-get_or}
use Rattle.stick_pooled.specs.Cut.{words_at}
use Rattle.stick_pooled.specs.Album.{Picture, Album, album, no_pictures, picture_at, picture_of, emptied, with_empty, keyed_image, pictured, room_after, with_picture, keyed, with_key, IsPlace, AreSound}
use Rattle.stick_pooled.specs.declared.slot_images.Image.{Image}

-- ---- on lists
map-same : {A B : Type 0} (P : A → Type 0) (f g : A → B) (xs : List A) → AllByRecursion P xs → ((x : A) → P x → f x ≡ g x) → map f xs ≡ map g xs
map-same P f g [] all same = refl
map-same P f g (x ∷ xs) all same = ap (λ y. y ∷ map f xs) (same x all.0) ∙ ap (λ ys. g x ∷ ys) (map-same P f g xs all.1 same)

all-set : {A : Type 0} (P : A → Type 0) (xs : List A) (at : ℕ) (v : A) → AllByRecursion P xs → P v → AllByRecursion P (set xs at v)
all-set P [] at v all own = all
all-set P (x ∷ xs) zero v all own = (own, all.1)
all-set P (x ∷ xs) (suc at) v all own = (all.0, all-set P xs at v all.1 own)

all-weaker : {A : Type 0} (P Q : A → Type 0) (xs : List A) → AllByRecursion P xs → ((x : A) → P x → Q x) → AllByRecursion Q xs
all-weaker P Q [] all weaker = tt
all-weaker P Q (x ∷ xs) all weaker = (weaker x all.0, all-weaker P Q xs all.1 weaker)

all-replicate : {A : Type 0} (P : A → Type 0) (count : ℕ) (v : A) → P v → AllByRecursion P (replicate count v)
all-replicate P zero v own = tt
all-replicate P (suc count) v own = (own, all-replicate P count v own)

map-replicate : {A B : Type 0} (f : A → B) (count : ℕ) (v : A) → map f (replicate count v) ≡ replicate count (f v)
map-replicate f zero v = refl
map-replicate f (suc count) v = ap (λ ys. f v ∷ ys) (map-replicate f count v)

got-before : {X : Type 0} (xs ys : List X) (i : ℕ) → i < length xs → slice_get (xs ++ ys) i ≡ slice_get xs i
got-before [] ys i inside = absurd (omega arith)
got-before (x ∷ xs) ys zero inside = refl
got-before (x ∷ xs) ys (suc i) inside = got-before xs ys i (omega arith)

got-last : {X : Type 0} (xs : List X) (y : X) → slice_get (xs ++ y ∷ []) (length xs) ≡ Some y
got-last [] y = refl
got-last (x ∷ xs) y = got-last xs y

got-set_same : {X : Type 0} (xs : List X) (i : ℕ) (y : X) → i < length xs → slice_get (set xs i y) i ≡ Some y
got-set_same [] i y inside = absurd (omega arith)
got-set_same (x ∷ xs) zero y inside = refl
got-set_same (x ∷ xs) (suc i) y inside = got-set_same xs i y (omega arith)

got-set_other : {X : Type 0} (xs : List X) (i j : ℕ) (y : X) → j ≢ i → slice_get (set xs i y) j ≡ slice_get xs j
got-set_other [] i j y other = refl
got-set_other (x ∷ xs) zero zero y other = absurd (other refl)
got-set_other (x ∷ xs) zero (suc j) y other = refl
got-set_other (x ∷ xs) (suc i) zero y other = refl
got-set_other (x ∷ xs) (suc i) (suc j) y other = got-set_other xs i j y (λ same. other (ap suc same))

all-at : {A : Type 0} (P : A → Type 0) (xs : List A) (d : A) (i : ℕ) → AllByRecursion P xs → P d → P (get_or xs i d)
all-at P [] d i all own = own
all-at P (x ∷ xs) d zero all own = all.0
all-at P (x ∷ xs) d (suc i) all own = all-at P xs d i all.1 own

-- ---- words behind others
words-before : (words more : List ℕ) (at width : ℕ) → at * width + width ≤ length words → words_at (words ++ more) at width ≡ words_at words at width
words-before words more at width within =
    let left = length-drop (at * width) words in
    ap (take width) (drop-append-le (at * width) words more (omega arith))
    ∙ take-append-le width (drop (at * width) words) more (omega (arith, left, within))

words-last : (words row : List ℕ) (at width : ℕ) → length words ≡ at * width → length row ≡ width → words_at (words ++ row) at width ≡ row
words-last words row at width sized long = ap (take width) (drop_at words row (at * width) sized) ∙ take_all width row (omega (arith, long))

-- ---- what a place names
module _ (images : List Image) (words : List ℕ) (width : ℕ) where
  -- beyond the images the slot was empty
  pub named-empty : (at : ℕ) → length images ≤ at → picture_of images words width (suc at) ≡ Some None
  named-empty at past = ap (λ o. Some (option_map (λ (image : Image). record { image = image; words = words_at words at width }) o)) (slice_get_past images at past)

  pub named-image : (at : ℕ) (image : Image) → slice_get images at ≡ Some image → picture_of images words width (suc at) ≡ Some (Some (record { image = image; words = words_at words at width }))
  named-image at image is = ap (λ o. Some (option_map (λ (image : Image). record { image = image; words = words_at words at width }) o)) is

  pub named-at : (places : List ℕ) (slot : ℕ) → get_or (map (picture_of images words width) places) slot None ≡ picture_of images words width (get_or places slot 0)
  named-at places slot = get_or-map (picture_of images words width) places slot 0

  less : (at : ℕ) → suc at - 1 ≡ at
  less at = omega arith

  -- an image that a place names has its words
  pub named-within : (place : ℕ) (p : Picture) → length words ≡ length images * width → picture_of images words width place ≡ Some (Some p) → (place - 1) * width + width ≤ length words
  named-within zero p worded is = absurd cc
  named-within (suc at) p worded is = by_image (slice_get images at) refl is
    where
      by_image : (o : Option Image) → slice_get images at ≡ o → Some (option_map (λ (image : Image). record { image = image; words = words_at words at width }) o) ≡ Some (Some p) → (suc at - 1) * width + width ≤ length words
      by_image None got named = absurd cc
      by_image (Some image) got named =
          let inside : at < length images = slice_get_within images at image got in
          let wide : suc at * width ≤ length images * width = mul-le (suc at) width (length images) width (omega arith) (omega arith) in
          let next = suc-mul at width in
          let place : (suc at - 1) * width ≡ at * width = ap (λ n. n * width) (less at) in
          omega (arith, wide, next, worded, place)

  -- another image in one's place
  named-other : (at : ℕ) (image : Image) (place : ℕ) → place ≢ suc at → picture_of (set images at image) words width place ≡ picture_of images words width place
  named-other at image zero other = refl
  named-other at image (suc q) other = ap (λ o. Some (option_map (λ (i : Image). record { image = i; words = words_at words q width }) o)) (got-set_other images at q image (λ same. other (ap suc same)))

  -- one image more, whose words are behind the others
  module _ (image : Image) (row : List ℕ) (worded : length words ≡ length images * width) (few : length images < 2 ^ 30) where
    named-more : (place : ℕ) → IsPlace (length images) place → picture_of (images ++ image ∷ []) (words ++ row) width place ≡ picture_of images words width place
    named-more zero is = refl
    named-more (suc at) (inl below) =
        let wide : suc at * width ≤ length images * width = mul-le (suc at) width (length images) width below (omega arith) in
        let next = suc-mul at width in
        ap (λ o. Some (option_map (λ (i : Image). record { image = i; words = words_at (words ++ row) at width }) o)) (got-before images (image ∷ []) at (omega (arith, below)))
        ∙ ap (λ (ws : List ℕ). Some (option_map (λ (i : Image). record { image = i; words = ws }) (slice_get images at))) (words-before words row at width (omega (arith, wide, next, worded)))
    named-more (suc at) (inr empty) =
        let long : length (images ++ image ∷ []) ≡ length images + 1 = length-append images (image ∷ []) in
        ap (λ o. Some (option_map (λ (i : Image). record { image = i; words = words_at (words ++ row) at width }) o)) (slice_get_past (images ++ image ∷ []) at (omega (arith, long, few, empty)))
        ∙ sym (named-empty at (omega (arith, few, empty)))

    named-last : length row ≡ width → picture_of (images ++ image ∷ []) (words ++ row) width (suc (length images)) ≡ Some (Some (record { image = image; words = row }))
    named-last long =
        ap (λ o. Some (option_map (λ (i : Image). record { image = i; words = words_at (words ++ row) (length images) width }) o)) (got-last images image)
        ∙ ap (λ (ws : List ℕ). Some (Some (record { image = image; words = ws }))) (words-last words row (length images) width worded long)

-- ---- the album
pub new-album : (size width room : ℕ) (places : List ℕ) (images : List Image) (words : List ℕ) → places ≡ replicate size 0 → images ≡ [] → words ≡ [] → album width room (map (picture_of images words width) places) ≡ no_pictures size width room
new-album size width room places images words is none no_words =
    (λ i. album width room (map (picture_of (none i) (no_words i) width) (is i)))
    ∙ ap (album width room) (map-replicate (picture_of [] [] width) size 0)

module _ (images : List Image) (words : List ℕ) (width room : ℕ) (places : List ℕ) (a : Album) (is : album width room (map (picture_of images words width) places) ≡ a) where
  abbrev f : ℕ → Option (Option Picture)
  f place = picture_of images words width place

  -- so many places, and words of a picture
  pub same-size : (size wide more : ℕ) → size ≡ length places → wide ≡ width → no_pictures size wide more ≡ no_pictures (length a.places) a.width more
  same-size size wide more sized same =
      (λ i. no_pictures (sized i) (same i) more)
      ∙ ap (λ n. no_pictures n width more) (sym (length-map places f))
      ∙ ap (λ (x : Album). no_pictures (length x.places) x.width more) is

  -- what a place that was read names
  pub read-place : (slot place : ℕ) → slot < length a.places → place ≡ get_or places slot place → f place ≡ picture_at a slot
  read-place slot place inside read =
      let sized : length a.places ≡ length places = ap (λ (x : Album). length x.places) (sym is) ∙ length-map places f in
      ap f read ∙ sym (map-get_or f places slot place None (omega (arith, inside, sized))) ∙ ap (λ (x : Album). picture_at x slot) is

  pub inside-places : (slot : ℕ) → slot < length a.places → slot < length places
  inside-places slot inside = let sized : length a.places ≡ length places = ap (λ (x : Album). length x.places) (sym is) ∙ length-map places f in omega (arith, inside, sized)

  -- a place that names what it did leaves the album as it is
  same-place : (slot : ℕ) (o : Option (Option Picture)) → o ≡ picture_at a slot → a ≡ album a.width a.room (set a.places slot o)
  same-place slot o same = sym (ap (λ (x : Option (Option Picture)). album a.width a.room (set a.places slot x)) same ∙ ap (album a.width a.room) (set-get_or a.places slot None))

  -- a place is written
  placed : (slot place : ℕ) → album width room (map f (set places slot place)) ≡ album a.width a.room (set a.places slot (f place))
  placed slot place =
      ap (album width room) (map-set f places slot place)
      ∙ ap (λ (x : Album). album x.width x.room (set x.places slot (f place))) is

  pub empty-kept : (slot place : ℕ) → slot < length a.places → place ≡ get_or places slot place → place ≡ 0 → length images < 2 ^ 30 + 1 → album width room (map f (set places slot 4294967295)) ≡ with_empty a slot
  empty-kept slot place inside read none few =
      let was : None ≡ picture_at a slot = ap f (sym none) ∙ read-place slot place inside read in
      placed slot 4294967295
      ∙ ap (λ o. album a.width a.room (set a.places slot o)) (named-empty images words width 4294967294 (omega (arith, few)) ∙ ap emptied was)

  -- nothing is kept of the slot, and it has no key to lose
  pub key-none : (slot place : ℕ) (key : List ℕ) → slot < length a.places → place ≡ get_or places slot place → place ≡ 0 → a ≡ with_key a slot key
  key-none slot place key inside read none =
      let was : None ≡ picture_at a slot = ap f (sym none) ∙ read-place slot place inside read in
      same-place slot (keyed key (picture_at a slot)) (ap (keyed key) (sym was) ∙ was)

  pub key-empty : (slot place : ℕ) (key : List ℕ) → slot < length a.places → place ≡ get_or places slot place → length images < place → a ≡ with_key a slot key
  key-empty slot zero key inside read past = absurd (omega (arith, past))
  key-empty slot (suc at) key inside read past =
      let was : Some None ≡ picture_at a slot = sym (named-empty images words width at (omega (arith, past))) ∙ read-place slot (suc at) inside read in
      same-place slot (keyed key (picture_at a slot)) (ap (keyed key) (sym was) ∙ was)

  pub key-given : (slot place : ℕ) (image given : Image) (key : List ℕ) → slot < length a.places → place ≡ get_or places slot place → place ≢ 0 → place ≤ length images
      → ((i j : ℕ) → get_or places i 0 ≡ get_or places j 0 → 0 < get_or places i 0 → get_or places i 0 ≤ length images → i ≡ j)
      → image ≡ get_or images (place - 1) image → given ≡ keyed_image key image
      → album width room (map (picture_of (set images (place - 1) given) words width) places) ≡ with_key a slot key
  key-given slot zero image given key inside read some below apart had is_given = absurd (some refl)
  key-given slot (suc at) image given key inside read some below apart had is_given =
      ap (λ n. album width room (map (picture_of (set images n given) words width) places)) (less images words width at) ∙ ap (album width room) lists ∙ ap (λ (x : Album). with_key x slot key) is
    where
      within : slot < length places
      within = let sized : length a.places ≡ length places = ap (λ (x : Album). length x.places) (sym is) ∙ length-map places f in omega (arith, inside, sized)

      here : get_or places slot 0 ≡ suc at
      here = sym (map-get_or (λ (n : ℕ). n) places slot 0 (suc at) within) ∙ map-get_or (λ (n : ℕ). n) places slot (suc at) (suc at) within ∙ sym read

      was : get_or (map f places) slot None ≡ Some (Some (record { image = image; words = words_at words at width }))
      was = named-at images words width places slot ∙ ap f here ∙ named-image images words width at image (slice_get-get_or images at image (omega (arith, below)) ∙ ap Some (sym (had ∙ ap (λ n. get_or images n image) (less images words width at))))

      now : get_or (map (picture_of (set images at given) words width) places) slot None ≡ keyed key (get_or (map f places) slot None)
      now = named-at (set images at given) words width places slot ∙ ap (picture_of (set images at given) words width) here ∙ named-image (set images at given) words width at given (got-set_same images at given (omega (arith, below)))
          ∙ ap (λ (i : Image). Some (Some (record { image = i; words = words_at words at width }))) is_given ∙ ap (keyed key) (sym was)

      by_slot : (i : ℕ) → (i ≡ slot) ⊎ (i ≢ slot) → get_or (map (picture_of (set images at given) words width) places) i None ≡ get_or (set (map f places) slot (keyed key (get_or (map f places) slot None))) i None
      by_slot i (inl same) = ap (λ j. get_or (map (picture_of (set images at given) words width) places) j None) same ∙ now
          ∙ sym (get_or-set_same (map f places) slot (keyed key (get_or (map f places) slot None)) None (subst (λ n. slot < n) (sym (length-map places f)) within))
          ∙ ap (λ j. get_or (set (map f places) slot (keyed key (get_or (map f places) slot None))) j None) (sym same)
      by_slot i (inr other) =
          named-at (set images at given) words width places i
          ∙ named-other images words width at given (get_or places i 0) (λ same. other (apart i slot (same ∙ sym here) (omega (arith, same)) (omega (arith, same, below))))
          ∙ sym (named-at images words width places i)
          ∙ sym (get_or-set_other (map f places) slot i (keyed key (get_or (map f places) slot None)) None other)

      lists : map (picture_of (set images at given) words width) places ≡ set (map f places) slot (keyed key (get_or (map f places) slot None))
      lists = ext_get_or None (map (picture_of (set images at given) words width) places) (set (map f places) slot (keyed key (get_or (map f places) slot None)))
          (length-map places (picture_of (set images at given) words width) ∙ sym (length-map places f) ∙ sym (length-set (map f places) slot _)) (λ i inside. by_slot i (cases_eq i slot))

  -- an image is kept
  module _ (image : Image) (row : List ℕ) (slot count : ℕ) (more : List Image) (longer : List ℕ) (are : more ≡ images ++ image ∷ []) (behind : longer ≡ words ++ row) (numbered : count ≡ length more) (long : length row ≡ a.width) where
    wide : width ≡ a.width
    wide = ap (λ (x : Album). x.width) is

    last : count ≡ suc (length images)
    last = let joined = ap length are ∙ length-append images (image ∷ []) in omega (arith, numbered, joined)

    pub kept : AllByRecursion (IsPlace (length images)) places → length words ≡ length images * width → length images < 2 ^ 30 → picture_at a slot ≡ None
        → album width (room - 1) (map (picture_of more longer width) (set places slot count)) ≡ with_picture a slot image row
    kept named worded few first =
        (λ i. album width (room - 1) (map (picture_of (are i) (behind i) width) (set places slot (last i))))
        ∙ ap (album width (room - 1))
        (map-set (picture_of (images ++ image ∷ []) (words ++ row) width) places slot (suc (length images))
        ∙ ap (λ ps. set ps slot (picture_of (images ++ image ∷ []) (words ++ row) width (suc (length images)))) (map-same (IsPlace (length images)) (picture_of (images ++ image ∷ []) (words ++ row) width) f places named (λ place in_place. named-more images words width image row worded few place in_place))
        ∙ ap (set (map f places) slot) (named-last images words width image row worded few (long ∙ sym wide)))
        ∙ ap (λ (x : Album). album x.width (x.room - 1) (set x.places slot (Some (Some (record { image = image; words = row }))))) is
        ∙ ap (λ o. album a.width (room_after o a.room) (set a.places slot (pictured image row o))) (sym first)

-- ---- what the images keep
module _ (places : List ℕ) (images : List Image) (words : List ℕ) (width room image_space word_space : ℕ) (sound : AreSound places images words width room image_space word_space) where
  placed-as : (slot i v : ℕ) → slot < length places → (i ≡ slot) ⊎ (i ≢ slot) → (get_or (set places slot v) i 0 ≡ v) × (i ≡ slot) ⊎ (get_or (set places slot v) i 0 ≡ get_or places i 0) × (i ≢ slot)
  placed-as slot i v inside (inl same) = inl (ap (λ j. get_or (set places slot v) j 0) same ∙ get_or-set_same places slot v 0 inside, same)
  placed-as slot i v inside (inr other) = inr (get_or-set_other places slot i v 0 other, other)

  is-place : (i : ℕ) → IsPlace (length images) (get_or places i 0)
  is-place i = all-at (IsPlace (length images)) places 0 i sound.named (inl (omega arith))

  -- a place that names none of so many images
  apart-from : (slot v count : ℕ) → slot < length places → count < 2 ^ 32 - 1 → length images ≤ count → ((i : ℕ) → i ≢ slot → get_or places i 0 ≡ v → v ≤ count → ⊥)
      → (i j : ℕ) → get_or (set places slot v) i 0 ≡ get_or (set places slot v) j 0 → 0 < get_or (set places slot v) i 0 → get_or (set places slot v) i 0 ≤ count → i ≡ j
  apart-from slot v count inside small more alone i j same some below = by_places (placed-as slot i v inside (cases_eq i slot)) (placed-as slot j v inside (cases_eq j slot))
    where
      by_places : (get_or (set places slot v) i 0 ≡ v) × (i ≡ slot) ⊎ (get_or (set places slot v) i 0 ≡ get_or places i 0) × (i ≢ slot)
          → (get_or (set places slot v) j 0 ≡ v) × (j ≡ slot) ⊎ (get_or (set places slot v) j 0 ≡ get_or places j 0) × (j ≢ slot) → i ≡ j
      by_places (inl one) (inl other) = one.1 ∙ sym other.1
      by_places (inl one) (inr other) = absurd (alone j other.1 (sym other.0 ∙ sym same ∙ one.0) (subst (λ n. n ≤ count) one.0 below))
      by_places (inr one) (inl other) = absurd (alone i one.1 (sym one.0 ∙ same ∙ other.0) (subst (λ n. n ≤ count) (same ∙ other.0) below))
      by_places (inr one) (inr other) = sound.apart i j (sym one.0 ∙ same ∙ other.0) (subst (λ n. 0 < n) one.0 some) (by_place (is-place i))
        where
          by_place : IsPlace (length images) (get_or places i 0) → get_or places i 0 ≤ length images
          by_place (inl within) = within
          by_place (inr empty) = let low : get_or places i 0 ≤ count = subst (λ n. n ≤ count) one.0 below in absurd (omega (arith, low, empty, small))

  pub sound-empty : (slot : ℕ) → slot < length places → AreSound (set places slot 4294967295) images words width room image_space word_space
  sound-empty slot inside = record {
    named = all-set (IsPlace (length images)) places slot 4294967295 sound.named (inr refl);
    apart = let few = sound.few in apart-from slot 4294967295 (length images) inside (omega (arith, few)) (omega arith) (λ i other same low. omega (arith, low, few));
    worded = sound.worded;
    few = sound.few;
    image_space_left = sound.image_space_left;
    word_space_left = sound.word_space_left;
  }

  pub sound-kept : (slot count : ℕ) (image : Image) (row : List ℕ) (more : List Image) (longer : List ℕ) (more_space longer_space : ℕ) → slot < length places → 0 < room → length row ≡ width
      → more ≡ images ++ image ∷ [] → longer ≡ words ++ row → count ≡ length more → more_space ≡ image_space → longer_space ≡ word_space
      → AreSound (set places slot count) more longer width (room - 1) more_space longer_space
  sound-kept slot count image row more longer more_space longer_space inside some long are behind numbered same_space same_words =
      let joined : length more ≡ length images + 1 = ap length are ∙ length-append images (image ∷ []) in
      let few = sound.few in
      let spaced = sound.image_space_left in
      let sums : length more + (room - 1) ≡ length images + room = omega (arith, joined, some) in
      record {
        named = all-set (IsPlace (length more)) places slot count (all-weaker (IsPlace (length images)) (IsPlace (length more)) places sound.named (λ place in_place. grown place in_place joined)) (inl (omega (arith, numbered)));
        apart = apart-from slot count (length more) inside (omega (arith, joined, few, some)) (omega (arith, joined)) (λ i other same low. by_place i (is-place i) joined numbered same few);
        worded = ap length behind ∙ length-append words row ∙ worded_more joined;
        few = omega (arith, sums, few);
        image_space_left = omega (arith, sums, spaced, same_space);
        word_space_left = subst (λ n. n * width ≤ longer_space) (sym sums) (subst (λ n. (length images + room) * width ≤ n) (sym same_words) sound.word_space_left);
      }
    where
      grown : (place : ℕ) → IsPlace (length images) place → length more ≡ length images + 1 → IsPlace (length more) place
      grown place (inl within) joined = inl (omega (arith, within, joined))
      grown place (inr empty) joined = inr empty

      by_place : (i : ℕ) → IsPlace (length images) (get_or places i 0) → length more ≡ length images + 1 → count ≡ length more → get_or places i 0 ≡ count → length images + room ≤ 2 ^ 30 → ⊥
      by_place i (inl within) joined numbered same few = omega (arith, within, joined, numbered, same)
      by_place i (inr empty) joined numbered same few = omega (arith, empty, joined, numbered, same, few, some)

      worded_more : length more ≡ length images + 1 → length words + length row ≡ length more * width
      worded_more joined =
          let next = suc-mul (length images) width in
          let same : length more * width ≡ suc (length images) * width = ap (λ n. n * width) (omega (arith, joined)) in
          let before = sound.worded in
          omega (arith, next, same, before, long)
