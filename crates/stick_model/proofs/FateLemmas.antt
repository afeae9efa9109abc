-- What a step makes of the record of a key.
use Rattle.std.proofs.Common.{◌≡◌, ℕ, refl, sym, ◌∙◌, ap, subst, List, [], ◌∷◌, filter, Bool, true, false, cond, not, nat_lt, Option, Some, None, is_some, unwrap_or, arith, inl, inr}
use Rattle.std.specs.Prelude.{IsSome}
use Rattle.std.specs.List.{AllByRecursion}
use Rattle.std.specs.List.Sorted.{IsStrictlySortedBy}
use Rattle.std.specs.Cmp.Lexicographic.{nat_list_cmp_total}
use Rattle.std.specs.Map.{keys_of, set_value}
use Rattle.std.specs.Option.{option_map, option_map_or}
use Rattle.stored_data.specs.declared.act.Act.{Act}
use Rattle.stored_data.specs.declared.act.Act.TheVariants.{Connection}
use Rattle.std.proofs.lemmas.Bool.{false≢true, true≢false}
use Rattle.stored_data.specs.Acts.{acted}
use Rattle.stick_model.specs.Key.{Key, key_cmp, same_key}
use Rattle.stick_model.specs.State.{State, is_tracked, refs, record_at, zero_record, touched, stays}
use Rattle.stick_model.specs.Filters.{is_matched}
use Rattle.stick_model.specs.Step.{Step, begun, found_or_zero, connected, written}
use Rattle.stick_model.specs.Limits.{moment_of}
use Rattle.stick_model.specs.Laws.{values_after, IsKept, NeverLostLaw}
use Rattle.stick_model.specs.Counted.{Taken, act_told, act_for}
use Rattle.stick_model.specs.Step.{subject_of}
use Rattle.stick_model.specs.declared.rows.Ticket.{Ticket}
use Rattle.stick_model.specs.declared.rows.Record.{Record}
use Rattle.stick_model.specs.declared.events.Event.{Event}
use Rattle.stick_model.specs.declared.events.Event.TheVariants.{Track, Count, Release, Put}
use Rattle.stick_model.specs.declared.replies.Reply.{Reply}
use Rattle.stick_model.specs.declared.replies.Reply.TheVariants.{Tracked}
use Rattle.stick_model.proofs.KeyLemmas.{same_key-exact}
use Rattle.stick_model.proofs.EntryLemmas.{sorted-filter, lookup-filter-cases, lookup-set}
use Rattle.stick_model.proofs.StepCases.{IsQuiet, IsIdle, Happens, idles, tracks, counts, releases, writes, removes, clears, happened}
use Rattle.std.proofs.lemmas.List.Sums.{sum_by-cons}
use Rattle.stick_model.proofs.StepLemmas.{step_clock}
use Rattle.stick_model.proofs.RecordLemmas.{KeepsTracked, lookup-kept, IsStored, is-stored, stored-found}
use Rattle.stick_model.proofs.LegalLemmas.{IsOrderly, orderly-from_legal, stays-keeps, removes-keeps, clears-keeps}

-- the act that an event makes, where it is answered
abbrev pub act_made : Event → Option Act
act_made (Track now key) = Some Connection
act_made (Count now ticket act) = Some act
act_made event = None

abbrev pub taken : State → Event → Reply → Taken
taken old event reply = record { before = old; event = event; reply = reply }

-- the record of a key after an event that began in this state: gone, where the key isn't tracked; the same, and nothing
-- was counted for it; or with the data that the event makes of it
pub data Fate (old : State) (begins : State) (event : Event) (reply : Reply) (key : Key) (now : Option Record) : Type 0 where
  gone : is_tracked key old.tickets ≡ false → now ≡ None → Fate old begins event reply key now
  same : now ≡ record_at key begins.records → (is_some (record_at key begins.records) ≡ true → act_for key (taken old event reply) ≡ None) → Fate old begins event reply key now
  made : (after : Record) → now ≡ Some after → subject_of old event ≡ Some key → act_told event reply ≡ act_made event → after.values ≡ values_after begins.clock event (found_or_zero begins key).values → Fate old begins event reply key now

-- nothing is counted for a key that the event isn't of, nor where the reply tells no act
other_key : (old : State) (event : Event) (reply : Reply) (key subject : Key) → subject_of old event ≡ Some subject → same_key key subject ≡ false → act_for key (taken old event reply) ≡ None
other_key old event reply key subject of_it other = ap (λ o. cond (option_map_or (same_key key) o false) (act_told event reply) None) of_it ∙ ap (λ b. cond b (act_told event reply) None) other

none_told : (old : State) (event : Event) (reply : Reply) (key : Key) → act_told event reply ≡ None → act_for key (taken old event reply) ≡ None
none_told old event reply key none = either (option_map_or (same_key key) (subject_of old event) false) (act_told event reply) none
  where
    either : (b : Bool) (o : Option Act) → o ≡ None → cond b o None ≡ None
    either true o none = none
    either false o none = refl

idle-untold : (old : State) (event : Event) (reply : Reply) (key : Key) → IsQuiet reply → IsIdle old event → act_for key (taken old event reply) ≡ None
idle-untold old (Count now ticket act) reply key quiet none = ap (λ o. cond (option_map_or (same_key key) o false) (act_told (Count now ticket act) reply) None) none
idle-untold old (Track now subject) reply key quiet idle = none_told old (Track now subject) reply key (untold reply quiet)
  where
    untold : (reply : Reply) → IsQuiet reply → act_told (Track now subject) reply ≡ None
    untold (Tracked ticket row) quiet = absurd quiet
    untold _ quiet = refl
idle-untold old event reply key quiet idle = none_told old event reply key refl

module _ (old : State) (begins : State) (event : Event) (reply : Reply) (key : Key) where
  -- by a filter that leaves out no tracked record
  by_filter : (q : Key × Record → Bool) → KeepsTracked old.tickets q → act_told event reply ≡ None → IsStrictlySortedBy key_cmp (keys_of begins.records) → Fate old begins event reply key (record_at key (filter q begins.records))
  by_filter q keeps none sorted =
      let untold : act_for key (taken old event reply) ≡ None = none_told old event reply key none in
      elim (is_tracked key old.tickets) as (λ b. is_tracked key old.tickets ≡ b → Fate old begins event reply key (record_at key (filter q begins.records))) [
        | true ↦ λ is. same (lookup-kept old.tickets q key begins.records keeps is) (λ _. untold)
        | false ↦ λ is. elim (lookup-filter-cases key_cmp nat_list_cmp_total key q begins.records sorted) [ inl kept ↦ same kept (λ _. untold) | inr left_out ↦ gone is left_out ]
      ] refl

  -- by a write to the record of a key
  by_write : (subject : Key) (after : Record) → subject_of old event ≡ Some subject → act_told event reply ≡ act_made event → after.values ≡ values_after begins.clock event (found_or_zero begins subject).values
      → Fate old begins event reply key (record_at key (set_value (same_key subject) begins.records after))
  by_write subject after of_it told values =
      let now = lookup-set key_cmp nat_list_cmp_total subject key begins.records after in
      elim (same_key key subject) as (λ b. same_key key subject ≡ b → Fate old begins event reply key (record_at key (set_value (same_key subject) begins.records after))) [
        | true ↦ λ is. here (same_key-exact key subject is) (record_at key begins.records) refl (now ∙ ap (λ b. cond b (option_map (λ _. after) (record_at key begins.records)) (record_at key begins.records)) is)
        | false ↦ λ is. same (now ∙ ap (λ b. cond b (option_map (λ _. after) (record_at key begins.records)) (record_at key begins.records)) is) (λ _. other_key old event reply key subject of_it is)
      ] refl
    where
      here : key ≡ subject → (o : Option Record) → record_at key begins.records ≡ o → record_at key (set_value (same_key subject) begins.records after) ≡ option_map (λ _. after) (record_at key begins.records)
          → Fate old begins event reply key (record_at key (set_value (same_key subject) begins.records after))
      here is None none now = same (now ∙ ap (option_map (λ _. after)) none ∙ sym none) (λ some. absurd (false≢true (ap is_some (sym none) ∙ some)))
      here is (Some r) some now =
          made after (now ∙ ap (option_map (λ _. after)) some) (of_it ∙ ap Some (sym is)) told (subst (λ k. after.values ≡ values_after begins.clock event (found_or_zero begins k).values) (sym is) values)

  -- by a record that is stored
  by_store : (subject : Key) (after : Record) (records : List (Key × Record)) → IsStored old.spec old.tickets begins.records subject after records → subject_of old event ≡ Some subject → act_told event reply ≡ act_made event
      → after.values ≡ values_after begins.clock event (found_or_zero begins subject).values → IsStrictlySortedBy key_cmp (keys_of begins.records) → Fate old begins event reply key (record_at key records)
  by_store subject after records stored of_it told values sorted =
      let now = stored-found old.spec old.tickets begins.records subject after records stored key in
      elim (same_key key subject) as (λ b. same_key key subject ≡ b → Fate old begins event reply key (record_at key records)) [
        | true ↦ λ is.
            let one : key ≡ subject = same_key-exact key subject is in
            made after (now ∙ ap (λ b. cond b (Some after) (record_at key stored.roomy)) is) (of_it ∙ ap Some (sym one)) told (subst (λ k. after.values ≡ values_after begins.clock event (found_or_zero begins k).values) (sym one) values)
        | false ↦ λ is. other (now ∙ ap (λ b. cond b (Some after) (record_at key stored.roomy)) is) (other_key old event reply key subject of_it is)
      ] refl
    where
      other : record_at key records ≡ record_at key stored.roomy → act_for key (taken old event reply) ≡ None → Fate old begins event reply key (record_at key records)
      other now untold =
          elim (is_tracked key old.tickets) as (λ b. is_tracked key old.tickets ≡ b → Fate old begins event reply key (record_at key records)) [
            | true ↦ λ is. same (now ∙ stored.room.found key is) (λ _. untold)
            | false ↦ λ is. elim (stored.room.fewer key sorted) [ inl kept ↦ same (now ∙ kept) (λ _. untold) | inr purged ↦ gone is (now ∙ purged) ]
          ] refl

fate-happens : {slot : ℕ} {event : Event} {reply : Reply} {new : State} (old : State) (key : Key) → IsOrderly old → Happens old slot event reply new → Fate old (begun old (moment_of event)) event reply key (record_at key new.records)
fate-happens old key orderly happening = go happening
  where
    sorted : (now : ℕ) → IsStrictlySortedBy key_cmp (keys_of (begun old now).records)
    sorted now = sorted-filter (λ (entry : Key × Record). entry.0) key_cmp (stays (begun old now).clock old.tickets) old.records orderly.sound.keys_rise

    go : {slot : ℕ} {event : Event} {reply : Reply} {new : State} → Happens old slot event reply new → Fate old (begun old (moment_of event)) event reply key (record_at key new.records)
    go (idles event reply quiet idle) = same refl (λ _. idle-untold old event reply key quiet idle)
    go (tracks now subject records room) =
        let state : State = begun old now in
        by_store old state (Track now subject) _ key subject (connected state subject) records (is-stored old.spec old.tickets state.records subject (connected state subject) records room) refl refl refl (sorted now)
    go (counts now ticket act subject out) =
        let state : State = begun old now in
        by_write old state (Count now ticket act) _ key subject (record (found_or_zero state subject) { values = acted (found_or_zero state subject).values state.clock act }) out refl refl
    go (releases now ticket subject out) =
        let state : State = begun old now in
        by_write old state (Release now ticket) _ key subject (touched state (found_or_zero state subject)) out refl refl
    go (writes now subject pairs created records room) =
        let state : State = begun old now in
        by_store old state (Put now subject pairs) _ key subject (written state subject pairs) records (is-stored old.spec old.tickets state.records subject (written state subject pairs) records room) refl refl refl (sorted now)
    go (removes now subject untracked) =
        by_filter old (begun old now) _ _ key (λ (entry : Key × Record). not (same_key subject entry.0)) (removes-keeps subject old.tickets untracked) refl (sorted now)
    go (clears now choice) =
        let state : State = begun old now in
        by_filter old state _ _ key (λ entry. not (is_matched state.clock old.tickets choice false entry)) (clears-keeps state.clock old.tickets choice) refl (sorted now)

pub step_fate : (old : State) (event : Event) (reply : Reply) (new : State) (key : Key) → IsOrderly old → Step old event reply new → Fate old (begun old (moment_of event)) event reply key (record_at key new.records)
step_fate old event reply new key orderly step = fate-happens old key orderly (happened old event reply new step)

-- ---- a tracked entry

-- a tracked key is that of some ticket
pub tracked-found : (key : Key) (records : List (Key × Record)) (tickets : List (Ticket × Key)) → AllByRecursion (λ (held : Ticket × Key). IsSome (record_at held.1 records)) tickets → is_tracked key tickets ≡ true → IsSome (record_at key records)
tracked-found key records [] held tracked = absurd (false≢true tracked)
tracked-found key records (one ∷ tickets) held tracked =
    elim (same_key key one.1) as (λ b. same_key key one.1 ≡ b → IsSome (record_at key records)) [
      | true ↦ λ is. ap (λ k. is_some (record_at k records)) (same_key-exact key one.1 is) ∙ held.0
      | false ↦ λ is. tracked-found key records tickets held.1 (fewer (refs key tickets) (refs key (one ∷ tickets)) (more is) tracked)
    ] refl
  where
    more : same_key key one.1 ≡ false → refs key (one ∷ tickets) ≡ refs key tickets
    more is = let none : ◌≡◌ {A = ℕ} (cond (same_key key one.1) 1 0) 0 = ap (λ b. cond b 1 0) is in omega (arith, none, sum_by-cons (λ (h : Ticket × Key). cond (same_key key h.1) 1 0) one tickets)

    fewer : (a b : ℕ) → b ≡ a → nat_lt 0 b ≡ true → nat_lt 0 a ≡ true
    fewer a b equal lt = ap (nat_lt 0) (sym equal) ∙ lt

pub never-lost : NeverLostLaw
never-lost old event reply new key legal step tracked =
    let orderly : IsOrderly old = orderly-from_legal old legal in
    let begins : State = begun old (moment_of event) in
    let through : record_at key begins.records ≡ record_at key old.records = lookup-kept old.tickets (stays begins.clock old.tickets) key old.records (stays-keeps begins.clock old.tickets) tracked in
    ending (record_at key old.records) refl (tracked-found key old.records old.tickets orderly.sound.keys_held tracked) through (step_fate old event reply new key orderly step)
  where
    ending : (o : Option Record) → record_at key old.records ≡ o → is_some o ≡ true → record_at key (begun old (moment_of event)).records ≡ record_at key old.records → Fate old (begun old (moment_of event)) event reply key (record_at key new.records) → IsKept old event new key
    ending None was some through fate = absurd (false≢true some)
    ending (Some before) was some through (gone free now) = absurd (true≢false (sym tracked ∙ free))
    ending (Some before) was some through (same now untold) = record { before = before; after = before; was = was; is = now ∙ through ∙ was; kept = inl refl }
    ending (Some before) was some through (made after now of_it told values) = record {
      before = before;
      after = after;
      was = was;
      is = now;
      kept = inr (of_it, values ∙ ap (λ (r : Record). values_after (begun old (moment_of event)).clock event r.values) (ap (λ o. unwrap_or o (zero_record old.spec.columns)) (through ∙ was)) ∙ ap (λ clock. values_after clock event before.values) (sym (step_clock old event reply new step)));
    }
