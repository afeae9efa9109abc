-- On what slots had at the base: a slot that changes once it is kept of it what it had leaves the base as it was.
use Rattle.std.proofs.Common.{◌≡◌, ◌≢◌, ℕ, zero, suc, ◌+◌, ◌<◌, ◌≤◌, ◌⊎◌, inl, inr, List, [], ◌∷◌, length, get_or, set, map, replicate, Option, Some, None, is_some, IsSome, count_by, cond, refl, sym, ap, subst, ◌∙◌, arith}
use Rattle.std.specs.Prelude.{unwrap_or}
use Rattle.std.specs.Option.{option_map}
use Rattle.std.proofs.lemmas.Bool.{cases_eq, true≢false}
use Rattle.std.proofs.lemmas.List.{length-set, set-get_or, get_or-set_same, get_or-set_other}
use Rattle.std.proofs.lemmas.List.Sums.{sum_by-cons}
use Rattle.std.proofs.Math.ListN.{length-replicate}
use Rattle.stored_data.specs.Words.{fields_in, width}
use Rattle.stored_data.specs.declared.stored_set.Column.{Column}
use Rattle.stored_data.specs.declared.values.StoredValue.{StoredValue}
use Rattle.stick_pooled.specs.Album.{Picture, Album, album, no_pictures, picture_at, emptied, with_empty, pictured, room_after, keyed, with_key}
use Rattle.stick_pooled.specs.Parts.{base_from, base_in, waits, waiting, IsAlbumOf, IsPictured, image_of}
use Rattle.stick_pooled.specs.Stock.{Held, kept_of}
use Rattle.stick_pooled.specs.declared.entry.Kept.{Kept}
use Rattle.stick_pooled.proofs.StockLemmas.{none_some, same_some}

set-set : {X : Type 0} (xs : List X) (i : ℕ) (x y : X) → set (set xs i x) i y ≡ set xs i y
set-set [] i x y = refl
set-set (z ∷ xs) zero x y = refl
set-set (z ∷ xs) (suc i) x y = ap (λ zs. z ∷ zs) (set-set xs i x y)

module _ (columns : List Column) where
  pub base-get : (places : List (Option (Option Picture))) (slots : List (Option Held)) (slot : ℕ) → length places ≡ length slots
      → get_or (base_in columns places slots) slot None ≡ base_from columns (get_or places slot None) (get_or slots slot None)
  base-get [] [] slot same = refl
  base-get [] (o ∷ slots) slot same = absurd (omega (arith, same))
  base-get (p ∷ places) [] slot same = absurd (omega (arith, same))
  base-get (p ∷ places) (o ∷ slots) zero same = refl
  base-get (p ∷ places) (o ∷ slots) (suc slot) same = base-get places slots slot (omega (arith, same))

  base-set : (places : List (Option (Option Picture))) (slots : List (Option Held)) (slot : ℕ) (p : Option (Option Picture)) (o : Option Held) → length places ≡ length slots
      → base_in columns (set places slot p) (set slots slot o) ≡ set (base_in columns places slots) slot (base_from columns p o)
  base-set [] [] slot p o same = refl
  base-set [] (l ∷ slots) slot p o same = absurd (omega (arith, same))
  base-set (q ∷ places) [] slot p o same = absurd (omega (arith, same))
  base-set (q ∷ places) (l ∷ slots) zero p o same = refl
  base-set (q ∷ places) (l ∷ slots) (suc slot) p o same = ap (λ (kept : List (Option Kept)). base_from columns q l ∷ kept) (base-set places slots slot p o (omega (arith, same)))

  pub length-base : (places : List (Option (Option Picture))) (slots : List (Option Held)) → length places ≡ length slots → length (base_in columns places slots) ≡ length slots
  length-base [] [] same = refl
  length-base [] (l ∷ slots) same = absurd (omega (arith, same))
  length-base (q ∷ places) [] same = absurd (omega (arith, same))
  length-base (q ∷ places) (l ∷ slots) same = let rest = length-base places slots (omega (arith, same)) in omega (arith, rest)

  -- where nothing is kept of any slot, the base is what they have
  pub base-none : (slots : List (Option Held)) → base_in columns (replicate (length slots) None) slots ≡ map (option_map kept_of) slots
  base-none [] = refl
  base-none (o ∷ slots) = ap (λ (kept : List (Option Kept)). option_map kept_of o ∷ kept) (base-none slots)

waiting-set : (places : List (Option (Option Picture))) (slots : List (Option Held)) (slot : ℕ) (p : Option (Option Picture)) (o : Option Held) → length places ≡ length slots → slot < length slots
    → waiting (set places slot p) (set slots slot o) + waits (get_or places slot None) (get_or slots slot None) ≡ waiting places slots + waits p o
waiting-set [] [] slot p o same inside = absurd (omega (arith, inside))
waiting-set [] (l ∷ slots) slot p o same inside = absurd (omega (arith, same))
waiting-set (q ∷ places) [] slot p o same inside = absurd (omega (arith, same))
waiting-set (q ∷ places) (l ∷ slots) zero p o same inside = omega arith
waiting-set (q ∷ places) (l ∷ slots) (suc slot) p o same inside = let rest = waiting-set places slots slot p o (omega (arith, same)) (omega (arith, inside)) in omega (arith, rest)

-- where nothing is kept of any slot, as many wait as have an entry
pub waiting-none : (slots : List (Option Held)) → waiting (replicate (length slots) None) slots ≡ count_by is_some slots
waiting-none [] = refl
waiting-none (o ∷ slots) =
    let rest = waiting-none slots in
    let one : ◌≡◌ {A = ℕ} (waits None o) (cond (is_some o) 1 0) = by_slot o in
    omega (arith, rest, one, sum_by-cons (λ (o : Option Held). cond (is_some o) 1 0) o slots)
  where
    by_slot : (o : Option Held) → ◌≡◌ {A = ℕ} (waits None o) (cond (is_some o) 1 0)
    by_slot None = refl
    by_slot (Some h) = refl

-- ---- a slot changes, and what it had at the base is known as before
module _ (columns : List Column) (slots : List (Option Held)) (a : Album) (of_slots : IsAlbumOf columns slots a) (slot : ℕ) (inside : slot < length slots) where
  module _ (p : Option (Option Picture)) (o : Option Held) (room : ℕ) where
    changed-album : ((q : Picture) → p ≡ Some (Some q) → q.image.key ≡ None → IsSome o) → waits p o + a.room ≤ waits (picture_at a slot) (get_or slots slot None) + room
        → IsAlbumOf columns (set slots slot o) (album a.width room (set a.places slot p))
    changed-album own spare = record {
      wide = of_slots.wide;
      placed = length-set a.places slot p ∙ of_slots.placed ∙ sym (length-set slots slot o);
      keyed = λ j q there none. by_place j q there none (cases_eq j slot);
      roomy = let sums = waiting-set a.places slots slot p o of_slots.placed inside in let roomy = of_slots.roomy in omega (arith, sums, roomy, spare);
    }
      where
        by_place : (j : ℕ) (q : Picture) → get_or (set a.places slot p) j None ≡ Some (Some q) → q.image.key ≡ None → (j ≡ slot) ⊎ (j ≢ slot) → IsSome (get_or (set slots slot o) j None)
        by_place j q there none (inl same) =
            let here : p ≡ Some (Some q) = sym (get_or-set_same a.places slot p None (subst (λ n. slot < n) (sym of_slots.placed) inside)) ∙ ap (λ k. get_or (set a.places slot p) k None) (sym same) ∙ there in
            subst IsSome (sym (ap (λ k. get_or (set slots slot o) k None) same ∙ get_or-set_same slots slot o None inside)) (own q here none)
        by_place j q there none (inr other) =
            subst IsSome (sym (get_or-set_other slots slot j o None other)) (of_slots.keyed j q (sym (get_or-set_other a.places slot j p None other) ∙ there) none)

    changed-base : base_from columns p o ≡ base_from columns (picture_at a slot) (get_or slots slot None) → base_in columns (set a.places slot p) (set slots slot o) ≡ base_in columns a.places slots
    changed-base same =
        base-set columns a.places slots slot p o of_slots.placed
        ∙ ap (set (base_in columns a.places slots) slot) (same ∙ sym (base-get columns a.places slots slot of_slots.placed))
        ∙ set-get_or (base_in columns a.places slots) slot None

  -- ---- a new entry in a slot that had none
  module _ (free : get_or slots slot None ≡ None) (new : Held) where
    has_key : (q : Picture) → picture_at a slot ≡ Some (Some q) → q.image.key ≡ None → ⊥
    has_key q there none = true≢false (sym (subst IsSome free (of_slots.keyed slot q there none)))

    pub inserted-album : IsAlbumOf columns (set slots slot (Some new)) (with_empty a slot)
    inserted-album = changed-album (emptied (picture_at a slot)) (Some new) a.room (λ q is none. refl) (by_place (picture_at a slot))
      where
        by_place : (before : Option (Option Picture)) → waits (emptied before) (Some new) + a.room ≤ waits before (get_or slots slot None) + a.room
        by_place None = omega arith
        by_place (Some before) = omega arith

    pub inserted-base : base_in columns (with_empty a slot).places (set slots slot (Some new)) ≡ base_in columns a.places slots
    inserted-base = changed-base (emptied (picture_at a slot)) (Some new) a.room (by_place (picture_at a slot) refl ∙ ap (base_from columns (picture_at a slot)) (sym free))
      where
        by_key : (q : Picture) → picture_at a slot ≡ Some (Some q) → (k : Option (List ℕ)) → q.image.key ≡ k → unwrap_or q.image.key new.key ≡ unwrap_or q.image.key []
        by_key q there None is = absurd (has_key q there is)
        by_key q there (Some k) is = ap (λ o. unwrap_or o new.key) is ∙ sym (ap (λ o. unwrap_or o []) is)

        by_place : (before : Option (Option Picture)) → picture_at a slot ≡ before → base_from columns (emptied before) (Some new) ≡ base_from columns before None
        by_place None there = refl
        by_place (Some None) there = refl
        by_place (Some (Some q)) there = ap (λ (k : List ℕ). Some (record { key = k; stamp = q.image.stamp; moment = q.image.moment; values = fields_in columns q.words })) (by_key q there q.image.key refl)

  -- ---- a slot that has an entry
  module _ (held : Held) (there : get_or slots slot None ≡ Some held) where
    pub needs_room : picture_at a slot ≡ None → 0 < a.room
    needs_room none =
        let sums = waiting-set a.places slots slot (Some None) None of_slots.placed inside in
        let waits_now : waits (picture_at a slot) (get_or slots slot None) ≡ 1 = (λ i. waits (none i) (there i)) in
        let roomy = of_slots.roomy in
        omega (arith, sums, waits_now, roomy)

    module _ (b : Album) (kept : IsPictured columns held.values held.entry slot a b) where
      -- another entry of the same key
      module _ (new : Held) (same : new.key ≡ held.key) where
        pub written-album : IsAlbumOf columns (set slots slot (Some new)) b
        written-album = subst (IsAlbumOf columns (set slots slot (Some new))) (sym kept.pictured)
            (changed-album (pictured (image_of held.entry) kept.words (picture_at a slot)) (Some new) (room_after (picture_at a slot) a.room) (λ q is none. refl)
            (subst (λ (live : Option Held). waits (pictured (image_of held.entry) kept.words (picture_at a slot)) (Some new) + a.room ≤ waits (picture_at a slot) live + room_after (picture_at a slot) a.room) (sym there) (by_place (picture_at a slot))))
          where
            by_place : (before : Option (Option Picture)) → waits (pictured (image_of held.entry) kept.words before) (Some new) + a.room ≤ waits before (Some held) + room_after before a.room
            by_place None = omega arith
            by_place (Some before) = omega arith

        pub written-base : base_in columns b.places (set slots slot (Some new)) ≡ base_in columns a.places slots
        written-base = ap (λ (x : Album). base_in columns x.places (set slots slot (Some new))) kept.pictured
            ∙ changed-base (pictured (image_of held.entry) kept.words (picture_at a slot)) (Some new) 0 (by_place (picture_at a slot) refl ∙ ap (base_from columns (picture_at a slot)) (sym there))
          where
            by_place : (before : Option (Option Picture)) → picture_at a slot ≡ before → base_from columns (pictured (image_of held.entry) kept.words before) (Some new) ≡ base_from columns before (Some held)
            by_place None is = (λ i. Some (record { key = same i; stamp = held.entry.stamp; moment = held.entry.moment; values = kept.means is i }))
            by_place (Some None) is = refl
            by_place (Some (Some q)) is = ap (λ (k : List ℕ). Some (record { key = unwrap_or q.image.key k; stamp = q.image.stamp; moment = q.image.moment; values = fields_in columns q.words })) same

      -- no entry any more
      pub lost-is : with_key b slot held.key ≡ album a.width (room_after (picture_at a slot) a.room) (set a.places slot (keyed held.key (pictured (image_of held.entry) kept.words (picture_at a slot))))
      lost-is =
          let p : Option (Option Picture) = pictured (image_of held.entry) kept.words (picture_at a slot) in
          ap (λ (x : Album). with_key x slot held.key) kept.pictured
          ∙ ap (λ o. album a.width (room_after (picture_at a slot) a.room) (set (set a.places slot p) slot (keyed held.key o))) (get_or-set_same a.places slot p None (subst (λ n. slot < n) (sym of_slots.placed) inside))
          ∙ ap (album a.width (room_after (picture_at a slot) a.room)) (set-set a.places slot p (keyed held.key p))

      pub removed-album : IsAlbumOf columns (set slots slot None) (with_key b slot held.key)
      removed-album = subst (IsAlbumOf columns (set slots slot None)) (sym lost-is)
          (changed-album (keyed held.key (pictured (image_of held.entry) kept.words (picture_at a slot))) None (room_after (picture_at a slot) a.room) (λ q is none. absurd (own (picture_at a slot) q is none))
          (subst (λ (live : Option Held). waits (keyed held.key (pictured (image_of held.entry) kept.words (picture_at a slot))) None + a.room ≤ waits (picture_at a slot) live + room_after (picture_at a slot) a.room) (sym there) (by_place (picture_at a slot))))
        where
          own : (before : Option (Option Picture)) (q : Picture) → keyed held.key (pictured (image_of held.entry) kept.words before) ≡ Some (Some q) → q.image.key ≡ None → ⊥
          own None q is none = none_some (sym (ap (λ (x : Picture). x.image.key) (same_some (same_some is)) ∙ none))
          own (Some None) q is none = none_some (same_some is)
          own (Some (Some p)) q is none = none_some (sym (ap (λ (x : Picture). x.image.key) (same_some (same_some is)) ∙ none))

          by_place : (before : Option (Option Picture)) → waits (keyed held.key (pictured (image_of held.entry) kept.words before)) None + a.room ≤ waits before (Some held) + room_after before a.room
          by_place None = omega arith
          by_place (Some None) = omega arith
          by_place (Some (Some q)) = omega arith

      pub removed-base : base_in columns (with_key b slot held.key).places (set slots slot None) ≡ base_in columns a.places slots
      removed-base = ap (λ (x : Album). base_in columns x.places (set slots slot None)) lost-is
          ∙ changed-base (keyed held.key (pictured (image_of held.entry) kept.words (picture_at a slot))) None 0 (by_place (picture_at a slot) refl ∙ ap (base_from columns (picture_at a slot)) (sym there))
        where
          by_place : (before : Option (Option Picture)) → picture_at a slot ≡ before → base_from columns (keyed held.key (pictured (image_of held.entry) kept.words before)) None ≡ base_from columns before (Some held)
          by_place None is = ap (λ (values : List StoredValue). Some (record { key = held.key; stamp = held.entry.stamp; moment = held.entry.moment; values = values })) (kept.means is)
          by_place (Some None) is = refl
          by_place (Some (Some q)) is = refl

-- ---- nothing is kept of any slot
none-at : (size slot : ℕ) → get_or {A = Option (Option Picture)} (replicate size None) slot None ≡ None
none-at zero slot = refl
none-at (suc size) zero = refl
none-at (suc size) (suc slot) = none-at size slot

module _ (columns : List Column) (slots : List (Option Held)) (size wide room : ℕ) (a : Album) (sized : size ≡ length slots) (is : a ≡ no_pictures size wide room) where
  pub fresh-base : base_in columns a.places slots ≡ map (option_map kept_of) slots
  fresh-base = ap (λ (x : Album). base_in columns x.places slots) is ∙ ap (λ n. base_in columns (replicate n None) slots) sized ∙ base-none columns slots

  pub fresh-album : wide ≡ width columns → count_by is_some slots ≤ room → IsAlbumOf columns slots a
  fresh-album same enough = subst (IsAlbumOf columns slots) (sym is) (record {
    wide = same;
    placed = length-replicate size None ∙ sized;
    keyed = λ slot q there none. absurd (none_some (sym (none-at size slot) ∙ there));
    roomy = let counts = waiting-none slots in subst (λ n. waiting (replicate n None) slots ≤ room) (sym sized) (omega (arith, counts, enough));
  })

pub no-base : (size : ℕ) → map (option_map kept_of) (replicate size None) ≡ replicate size None
no-base zero = refl
no-base (suc size) = ap (λ (kept : List (Option Kept)). None ∷ kept) (no-base size)

pub no-entry : (size : ℕ) → count_by is_some (replicate {A = Option Held} size None) ≡ 0
no-entry zero = refl
no-entry (suc size) = let rest = no-entry size in omega (arith, rest, sum_by-cons (λ (o : Option Held). cond (is_some o) 1 0) None (replicate size None))
