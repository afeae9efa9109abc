-- What the records of a legal state keep.
use Rattle.stick_model.proofs.TestLemmas.{lt-from, lt-to, differ-above, differ-below}
use Rattle.std.proofs.Common.{◌≡◌, ℕ, ◌+◌, ◌≤◌, refl, sym, ◌∙◌, ap, subst, arith, List, [], ◌∷◌, ◌++◌, length, map, filter, Bool, true, false, cond, not, ◌&&◌, ◌||◌, nat_eq, nat_lt, Option, Some, None, is_some, unwrap_or, ◌⊎◌, inl, inr}
use Rattle.std.specs.Prelude.{IsSome}
use Rattle.std.specs.List.{AllByRecursion, IsDistinct}
use Rattle.std.specs.List.Sorted.{IsStrictlySortedBy}
use Rattle.std.specs.Cmp.Lexicographic.{nat_list_cmp_total}
use Rattle.std.specs.Map.{keys_of, set_value}
use Rattle.std.specs.Option.{option_map}
use Rattle.std.specs.BTreeMap.{insert_entry}
use Rattle.std.proofs.lemmas.Bool.{true≢false}
use Rattle.std.proofs.lemmas.List.Sums.{sum_by-cons}
use Rattle.std.proofs.lemmas.Map.{keys-set_value, length-set_value}
use Rattle.std.proofs.lemmas.Map.Made.{IsSome-lookup_same_keys}
use Rattle.stick_model.specs.Key.{Key, key_cmp, same_key}
use Rattle.stick_model.specs.State.{refs, is_tracked, record_at}
use Rattle.stick_model.specs.Room.{purged, purge_of, count_older, is_purged, all_tracked, room_in, space_in, stored_in}
use Rattle.stick_model.specs.Legal.{stamp_in}
use Rattle.stick_model.specs.declared.rows.Ticket.{Ticket}
use Rattle.stick_model.specs.declared.rows.Record.{Record}
use Rattle.stick_model.specs.declared.specification.Spec.{Spec}
use Rattle.stick_model.proofs.KeyLemmas.{same_key-exact, same_key-refl}
use Rattle.stick_model.proofs.EntryLemmas.{Differs, all-filter, sorted-filter, distinct-filter, length-filter-le, lookup-filter, lookup-filter-cases, map-set_value, all-set_value, distinct-set_value, all-insert, distinct-insert, sorted-insert, lookup-insert, length-insert-le, length-insert-there}
use Rattle.stick_model.proofs.RoomLemmas.{purged-fewer}
use Rattle.stick_model.proofs.StepLemmas.{AllByRecursion-implies, AllByRecursion-filter, AllByRecursion-push}

-- ---- tracked keys

-- a key of a ticket that is out is tracked
pub tracked-self : (tickets : List (Ticket × Key)) → AllByRecursion (λ (held : Ticket × Key). is_tracked held.1 tickets ≡ true) tickets
tracked-self tickets = go tickets (λ key. omega arith)
  where
    go : (some : List (Ticket × Key)) → ((key : Key) → refs key some ≤ refs key tickets) → AllByRecursion (λ (held : Ticket × Key). is_tracked held.1 tickets ≡ true) some
    go [] le = tt
    go (held ∷ some) le =
        let more : (key : Key) → refs key (held ∷ some) ≡ cond (same_key key held.1) 1 0 + refs key some = λ key. sum_by-cons (λ (h : Ticket × Key). cond (same_key key h.1) 1 0) held some in
        let one : ◌≡◌ {A = ℕ} (cond (same_key held.1 held.1) 1 0) 1 = ap (λ b. cond b 1 0) (same_key-refl held.1) in
        (lt-to 0 (refs held.1 tickets) (omega (arith, more held.1, one, le held.1)), go some (λ key. omega (arith, more key, le key)))

-- ---- the records of a legal state, n being the count of events
pub record AreSound (size n : ℕ) (tickets : List (Ticket × Key)) (records : List (Key × Record)) : Type 0 where
  pub keys_rise : IsStrictlySortedBy key_cmp (keys_of records)
  pub within_size : length records ≤ size
  pub keys_held : AllByRecursion (λ (held : Ticket × Key). IsSome (record_at held.1 records)) tickets
  pub stamps_differ : IsDistinct nat_eq (map stamp_in records)
  pub stamps_past : AllByRecursion (λ s. s ≤ n) (map stamp_in records)

-- a filter that leaves out no tracked record
abbrev pub KeepsTracked : List (Ticket × Key) → (Key × Record → Bool) → Type 0
KeepsTracked tickets q = (entry : Key × Record) → is_tracked entry.0 tickets ≡ true → q entry ≡ true

pub lookup-kept : (tickets : List (Ticket × Key)) (q : Key × Record → Bool) (key : Key) (records : List (Key × Record)) → KeepsTracked tickets q → is_tracked key tickets ≡ true → record_at key (filter q records) ≡ record_at key records
lookup-kept tickets q key records keeps tracked = lookup-filter (same_key key) q records (λ entry same. keeps entry (ap (λ k. is_tracked k tickets) (sym (same_key-exact key entry.0 same)) ∙ tracked))

-- what holds of each tracked key that is found, of each ticket's
held-through : (tickets some : List (Ticket × Key)) (before after : List (Key × Record)) → ((key : Key) → is_tracked key tickets ≡ true → IsSome (record_at key before) → IsSome (record_at key after))
    → AllByRecursion (λ (held : Ticket × Key). is_tracked held.1 tickets ≡ true) some → AllByRecursion (λ (held : Ticket × Key). IsSome (record_at held.1 before)) some → AllByRecursion (λ (held : Ticket × Key). IsSome (record_at held.1 after)) some
held-through tickets [] before after f tracked h = tt
held-through tickets (held ∷ some) before after f tracked h = (f held.1 tracked.0 h.0, held-through tickets some before after f tracked.1 h.1)

pub sound-filter : (size n : ℕ) (tickets : List (Ticket × Key)) (records : List (Key × Record)) (q : Key × Record → Bool) → KeepsTracked tickets q → AreSound size n tickets records → AreSound size n tickets (filter q records)
sound-filter size n tickets records q keeps sound = record {
  keys_rise = sorted-filter (λ (entry : Key × Record). entry.0) key_cmp q records sound.keys_rise;
  within_size = omega (arith, length-filter-le q records, sound.within_size);
  keys_held = held-through tickets tickets records (filter q records) (λ key tracked there. ap is_some (lookup-kept tickets q key records keeps tracked) ∙ there) (tracked-self tickets) sound.keys_held;
  stamps_differ = distinct-filter stamp_in nat_eq q records sound.stamps_differ;
  stamps_past = all-filter stamp_in (λ s. s ≤ n) q records sound.stamps_past;
}

pub later-stamps : (n m : ℕ) (ss : List ℕ) → n ≤ m → AllByRecursion (λ s. s ≤ n) ss → AllByRecursion (λ s. s ≤ m) ss
later-stamps n m ss le h = AllByRecursion-implies (λ s. s ≤ n) (λ s. s ≤ m) (λ s k. omega arith) ss h

-- with one event more
pub sound-later : (size n : ℕ) (tickets : List (Ticket × Key)) (records : List (Key × Record)) → AreSound size n tickets records → AreSound size (n + 1) tickets records
sound-later size n tickets records sound = record {
  keys_rise = sound.keys_rise;
  within_size = sound.within_size;
  keys_held = sound.keys_held;
  stamps_differ = sound.stamps_differ;
  stamps_past = later-stamps n (n + 1) (map stamp_in records) (omega arith) sound.stamps_past;
}

-- with fewer tickets
pub sound-fewer : (size n : ℕ) (tickets : List (Ticket × Key)) (records : List (Key × Record)) (q : Ticket × Key → Bool) → AreSound size n tickets records → AreSound size n (filter q tickets) records
sound-fewer size n tickets records q sound = record {
  keys_rise = sound.keys_rise;
  within_size = sound.within_size;
  keys_held = AllByRecursion-filter (λ (held : Ticket × Key). IsSome (record_at held.1 records)) q tickets sound.keys_held;
  stamps_differ = sound.stamps_differ;
  stamps_past = sound.stamps_past;
}

held-set : (tickets : List (Ticket × Key)) (records : List (Key × Record)) (key : Key) (w : Record) → AllByRecursion (λ (held : Ticket × Key). IsSome (record_at held.1 records)) tickets → AllByRecursion (λ (held : Ticket × Key). IsSome (record_at held.1 (set_value (same_key key) records w))) tickets
held-set tickets records key w h =
    AllByRecursion-implies (λ (held : Ticket × Key). IsSome (record_at held.1 records)) (λ (held : Ticket × Key). IsSome (record_at held.1 (set_value (same_key key) records w)))
    (λ held there. (IsSome-lookup_same_keys (same_key held.1) records (set_value (same_key key) records w) (sym (keys-set_value (same_key key) records w))).0 there) tickets h

-- a number above all of a list is none of them
pub differs_above : (n : ℕ) (ss : List ℕ) → AllByRecursion (λ s. s ≤ n) ss → Differs nat_eq (n + 1) ss
differs_above n ss h = AllByRecursion-implies (λ s. s ≤ n) (λ s. (nat_eq (n + 1) s ≡ false) × (nat_eq s (n + 1) ≡ false)) (λ s le. (differ-below (n + 1) s (omega arith), differ-above s (n + 1) (omega arith))) ss h

-- a record is refreshed
pub sound-refreshed : (size n : ℕ) (tickets : List (Ticket × Key)) (records : List (Key × Record)) (key : Key) (w : Record) → w.stamp ≡ n + 1 → AreSound size n tickets records → AreSound size (n + 1) tickets (set_value (same_key key) records w)
sound-refreshed size n tickets records key w new sound =
    let stamp : Record → ℕ = λ r. r.stamp in
    record {
      keys_rise = subst (IsStrictlySortedBy key_cmp) (sym (keys-set_value (same_key key) records w)) sound.keys_rise;
      within_size = omega (arith, length-set_value (same_key key) records w, sound.within_size);
      keys_held = held-set tickets records key w sound.keys_held;
      stamps_differ = distinct-set_value (same_key key) stamp nat_eq records w sound.stamps_differ (subst (λ s. Differs nat_eq s (map stamp_in records)) (sym new) (differs_above n (map stamp_in records) sound.stamps_past));
      stamps_past = all-set_value (same_key key) stamp (λ s. s ≤ n + 1) records w (later-stamps n (n + 1) (map stamp_in records) (omega arith) sound.stamps_past) (omega arith);
    }

-- a record's data change, and its stamp stays
pub sound-acted : (size n : ℕ) (tickets : List (Ticket × Key)) (records : List (Key × Record)) (key : Key) (z w : Record) → w.stamp ≡ (unwrap_or (record_at key records) z).stamp → AreSound size n tickets records → AreSound size (n + 1) tickets (set_value (same_key key) records w)
sound-acted size n tickets records key z w same sound =
    let stamps : map stamp_in (set_value (same_key key) records w) ≡ map stamp_in records = map-set_value (same_key key) (λ r. r.stamp) records z w same in
    record {
      keys_rise = subst (IsStrictlySortedBy key_cmp) (sym (keys-set_value (same_key key) records w)) sound.keys_rise;
      within_size = omega (arith, length-set_value (same_key key) records w, sound.within_size);
      keys_held = held-set tickets records key w sound.keys_held;
      stamps_differ = subst (IsDistinct nat_eq) (sym stamps) sound.stamps_differ;
      stamps_past = subst (AllByRecursion (λ s. s ≤ n + 1)) (sym stamps) (later-stamps n (n + 1) (map stamp_in records) (omega arith) sound.stamps_past);
    }

-- ---- a record is stored

-- what room for a key leaves: all, where the key is there or they are fewer than the size, and else all but the oldest untracked
pub record IsRoom (spec : Spec) (tickets : List (Ticket × Key)) (records : List (Key × Record)) (key : Key) (roomy : List (Key × Record)) : Type 0 where
  pub kept : (n : ℕ) → AreSound spec.size n tickets records → AreSound spec.size n tickets roomy
  pub found : (other : Key) → is_tracked other tickets ≡ true → record_at other roomy ≡ record_at other records
  pub fewer : (other : Key) → IsStrictlySortedBy key_cmp (keys_of records) → (record_at other roomy ≡ record_at other records) ⊎ (record_at other roomy ≡ None)
  pub enough : length records ≤ spec.size → (is_some (record_at key roomy) ≡ true) ⊎ (length roomy + 1 ≤ spec.size)

purge-keeps : (purge : ℕ) (tickets : List (Ticket × Key)) (records : List (Key × Record)) → KeepsTracked tickets (λ entry. not (is_purged purge tickets records entry))
purge-keeps purge tickets records entry tracked = ap (λ b. not (not b && nat_lt (count_older tickets records entry.1.stamp) purge)) tracked

is-room : (spec : Spec) (tickets : List (Ticket × Key)) (records : List (Key × Record)) (key : Key) (roomy : List (Key × Record)) → space_in spec tickets records key ≡ Some roomy → IsRoom spec tickets records key roomy
is-room spec tickets records key roomy h =
    elim (is_some (record_at key records)) as (λ b. is_some (record_at key records) ≡ b → cond b (Some records) (room_in spec tickets records) ≡ Some roomy → IsRoom spec tickets records key roomy) [
      | true ↦ λ there h. same (cc) (λ _. inl there)
      | false ↦ λ _ h. elim (nat_lt (length records) spec.size) as (λ b. nat_lt (length records) spec.size ≡ b → cond b (Some records) (cond (spec.nopurge || all_tracked tickets records) None (Some (purged (purge_of spec) tickets records))) ≡ Some roomy → IsRoom spec tickets records key roomy) [
        | true ↦ λ lt h. same (cc) (λ _. inr (let less = lt-from (length records) spec.size lt in omega arith))
        | false ↦ λ _ h. elim (spec.nopurge || all_tracked tickets records) as (λ b. spec.nopurge || all_tracked tickets records ≡ b → cond b None (Some (purged (purge_of spec) tickets records)) ≡ Some roomy → IsRoom spec tickets records key roomy) [
          | true ↦ λ _ h. cc
          | false ↦ λ some h. fewer (cc) (second spec.nopurge (all_tracked tickets records) some)
        ] refl h
      ] refl h
    ] refl h
  where
    second : (a b : Bool) → a || b ≡ false → b ≡ false
    second true b h = absurd (true≢false h)
    second false b h = h

    same : records ≡ roomy → (length records ≤ spec.size → (is_some (record_at key records) ≡ true) ⊎ (length records + 1 ≤ spec.size)) → IsRoom spec tickets records key roomy
    same is enough = subst (IsRoom spec tickets records key) is (record { kept = λ n sound. sound; found = λ other tracked. refl; fewer = λ other sorted. inl refl; enough = enough })

    fewer : purged (purge_of spec) tickets records ≡ roomy → all_tracked tickets records ≡ false → IsRoom spec tickets records key roomy
    fewer is some = subst (IsRoom spec tickets records key) is (record {
      kept = λ n sound. sound-filter spec.size n tickets records (λ entry. not (is_purged (purge_of spec) tickets records entry)) (purge-keeps (purge_of spec) tickets records) sound;
      found = λ other tracked. lookup-kept tickets (λ entry. not (is_purged (purge_of spec) tickets records entry)) other records (purge-keeps (purge_of spec) tickets records) tracked;
      fewer = λ other sorted. lookup-filter-cases key_cmp nat_list_cmp_total other (λ entry. not (is_purged (purge_of spec) tickets records entry)) records sorted;
      enough = λ within. inr (omega (arith, purged-fewer (purge_of spec) tickets records (omega arith) some));
    })

-- the records with one stored
pub record IsStored (spec : Spec) (tickets : List (Ticket × Key)) (records : List (Key × Record)) (key : Key) (w : Record) (new : List (Key × Record)) : Type 0 where
  pub roomy : List (Key × Record)
  pub room : IsRoom spec tickets records key roomy
  pub is : new ≡ insert_entry key_cmp roomy key w

pub is-stored : (spec : Spec) (tickets : List (Ticket × Key)) (records : List (Key × Record)) (key : Key) (w : Record) (new : List (Key × Record)) → stored_in spec tickets records key w ≡ Some new → IsStored spec tickets records key w new
is-stored spec tickets records key w new h = go (space_in spec tickets records key) refl h
  where
    go : (o : Option (List (Key × Record))) → space_in spec tickets records key ≡ o → option_map (λ roomy. insert_entry key_cmp roomy key w) o ≡ Some new → IsStored spec tickets records key w new
    go None is h = cc
    go (Some roomy) is h = record { roomy = roomy; room = is-room spec tickets records key roomy is; is = cc }

-- what a look-up finds after it
pub stored-found : (spec : Spec) (tickets : List (Ticket × Key)) (records : List (Key × Record)) (key : Key) (w : Record) (new : List (Key × Record)) (stored : IsStored spec tickets records key w new) (other : Key)
    → record_at other new ≡ cond (same_key other key) (Some w) (record_at other stored.roomy)
stored-found spec tickets records key w new stored other = ap (record_at other) stored.is ∙ lookup-insert key_cmp key w nat_list_cmp_total other stored.roomy

pub sound-stored : (spec : Spec) (n : ℕ) (tickets : List (Ticket × Key)) (records : List (Key × Record)) (key : Key) (w : Record) (new : List (Key × Record)) → IsStored spec tickets records key w new → w.stamp ≡ n + 1 → AreSound spec.size n tickets records
    → AreSound spec.size (n + 1) tickets new × IsSome (record_at key new)
sound-stored spec n tickets records key w new stored stamped sound =
    let roomy : List (Key × Record) = stored.roomy in
    let inserted : List (Key × Record) = insert_entry key_cmp roomy key w in
    let stamp : Record → ℕ = λ r. r.stamp in
    let before : AreSound spec.size n tickets roomy = stored.room.kept n sound in
    let there : (other : Key) → IsSome (record_at other roomy) → IsSome (record_at other inserted) =
    λ other some. ap is_some (lookup-insert key_cmp key w nat_list_cmp_total other roomy) ∙ either (same_key other key) w (record_at other roomy) some in
    let all : AreSound spec.size (n + 1) tickets inserted = record {
      keys_rise = sorted-insert key_cmp key w nat_list_cmp_total roomy before.keys_rise;
      within_size = elim (stored.room.enough sound.within_size) [
        | inl there ↦ omega (arith, length-insert-there key_cmp key w nat_list_cmp_total roomy before.keys_rise there, before.within_size)
        | inr fewer ↦ omega (arith, length-insert-le key_cmp key w roomy, fewer)
      ];
      keys_held = AllByRecursion-implies (λ (held : Ticket × Key). IsSome (record_at held.1 roomy)) (λ (held : Ticket × Key). IsSome (record_at held.1 inserted)) (λ held some. there held.1 some) tickets before.keys_held;
      stamps_differ = distinct-insert key_cmp key w stamp nat_eq roomy before.stamps_differ (subst (λ s. Differs nat_eq s (map stamp_in roomy)) (sym stamped) (differs_above n (map stamp_in roomy) before.stamps_past));
      stamps_past = all-insert key_cmp key w stamp (λ s. s ≤ n + 1) roomy (later-stamps n (n + 1) (map stamp_in roomy) (omega arith) before.stamps_past) (omega arith);
    } in (
      subst (AreSound spec.size (n + 1) tickets) (sym stored.is) all,
      ap is_some (stored-found spec tickets records key w new stored key) ∙ ap (λ b. is_some (cond b (Some w) (record_at key roomy))) (same_key-refl key),
    )
  where
    either : (b : Bool) (w : Record) (o : Option Record) → is_some o ≡ true → is_some (cond b (Some w) o) ≡ true
    either true w o h = refl
    either false w o h = h

-- the key of the new ticket has a record too
pub sound-more : (size n : ℕ) (ticket : Ticket) (key : Key) (tickets : List (Ticket × Key)) (records : List (Key × Record)) → IsSome (record_at key records) → AreSound size n tickets records → AreSound size n (tickets ++ (ticket, key) ∷ []) records
sound-more size n ticket key tickets records there sound = record {
  keys_rise = sound.keys_rise;
  within_size = sound.within_size;
  keys_held = AllByRecursion-push (λ (held : Ticket × Key). IsSome (record_at held.1 records)) tickets (ticket, key) sound.keys_held there;
  stamps_differ = sound.stamps_differ;
  stamps_past = sound.stamps_past;
}
