-- A step keeps the data of the records those of the columns.
use Rattle.std.proofs.Common.{◌≡◌, ℕ, ◌≤◌, refl, sym, subst, arith, lit≤, List, [], ◌∷◌, map, filter, Bool, true, false, cond, not, ◌||◌, nat_lt, length, Option, Some, None, is_some, unwrap_or}
use Rattle.std.specs.Prelude.{if◌then◌else◌}
use Rattle.std.specs.List.{AllByRecursion}
use Rattle.std.specs.BTreeMap.{insert_entry}
use Rattle.std.specs.Option.{option_map}
use Rattle.std.proofs.lemmas.List.Elements.{recursion_from_All}
use Rattle.rate_window.specs.Rate.{tally}
use Rattle.stored_data.specs.Data.{is_rate, greatest}
use Rattle.stored_data.specs.Fields.{Element, elements, same_field}
use Rattle.stored_data.specs.Acts.{acted, change_at, changed, put_content, with_value, is_kept, zero_field}
use Rattle.stored_data.specs.Laws.{HasTag, IsInRange}
use Rattle.stored_data.proofs.Ranges.{stays_in_range}
use Rattle.stored_data.specs.declared.stored_set.Column.{Column}
use Rattle.stored_data.specs.declared.datum.Datum.{Datum}
use Rattle.stored_data.specs.declared.field.Field.{Field}
use Rattle.stored_data.specs.declared.act.Act.{Act}
use Rattle.stored_data.specs.declared.act.Act.TheVariants.{Connection}
use Rattle.stored_data.specs.declared.act.Change.{Change}
use Rattle.stored_data.specs.declared.act.Change.TheVariants.{Keep, Add, Set}
use Rattle.stored_data.specs.declared.values.Content.{Content}
use Rattle.stored_data.specs.declared.values.Content.TheVariants.{Number, Rate}
use Rattle.stored_data.specs.declared.values.StoredValue.{StoredValue}
use Rattle.stick_model.specs.Key.{Key, key_cmp, same_key}
use Rattle.stick_model.specs.State.{State, record_at, zero_record, touched, stays}
use Rattle.stick_model.specs.Room.{purged, purge_of, is_purged, all_tracked, room_in, space_in, stored_in}
use Rattle.stick_model.specs.Filters.{is_matched}
use Rattle.stick_model.specs.Legal.{IsKindOf, AreFieldsOf, AreDataOf}
use Rattle.stick_model.specs.Limits.{IsTableEvent, moment_of}
use Rattle.stick_model.specs.Step.{Step, begun, found_or_zero, without_ticket, connected, written, put_pairs}
use Rattle.stick_model.specs.Run.{Run}
use Rattle.stick_model.specs.declared.rows.Ticket.{Ticket}
use Rattle.stick_model.specs.declared.rows.Cell.{Cell}
use Rattle.stick_model.specs.declared.rows.Record.{Record}
use Rattle.stick_model.specs.declared.specification.Spec.{Spec}
use Rattle.stick_model.specs.declared.events.Event.{Event}
use Rattle.stick_model.specs.declared.replies.Reply.{Reply}
use Rattle.stick_model.proofs.EntryLemmas.{all-filter, all-set_value, all-insert}
use Rattle.stick_model.proofs.StepCases.{Happens, idles, tracks, counts, releases, writes, removes, clears, happened}

-- ---- the data of columns

zero-kind : (element : Element) (rate : Bool) → is_rate element.field.datum ≡ rate → IsKindOf element (if rate then Rate (tally [] element.period) else Number 0)
zero-kind element true is = (is, refl)
zero-kind element false is = is

zero-range : (element : Element) (rate : Bool) → IsInRange element.field.datum (if rate then Rate (tally [] element.period) else Number 0)
zero-range element true = (lit≤ tt, lit≤ tt)
zero-range element false = omega arith

zero-fields : (elements : List Element) → AreFieldsOf elements (map zero_field elements)
zero-fields [] = tt
zero-fields (element ∷ elements) =
    (record { field = refl; kind = zero-kind element (is_rate element.field.datum) refl; range = zero-range element (is_rate element.field.datum) }, zero-fields elements)

changed-kind : (element : Element) (now : ℕ) (datum : Datum) (change : Change) (content : Content) → IsKindOf element content → IsKindOf element (changed now datum change content)
changed-kind element now datum Keep content kind = kind
changed-kind element now datum (Add n) (Number old) kind = kind
changed-kind element now datum (Add n) (Rate kept) kind = kind
changed-kind element now datum (Set n) (Number old) kind = kind
changed-kind element now datum (Set n) (Rate kept) kind = kind

acted-fields : (elements : List Element) (values : List StoredValue) (now : ℕ) (act : Act) → HasTag act → AreFieldsOf elements values → AreFieldsOf elements (acted values now act)
acted-fields [] [] now act tag are = tt
acted-fields [] (stored ∷ values) now act tag are = absurd are
acted-fields (element ∷ elements) [] now act tag are = absurd are
acted-fields (element ∷ elements) (stored ∷ values) now act tag are = (
  record {
    field = are.0.field;
    kind = changed-kind element now stored.field.datum (change_at act stored.field) stored.content are.0.kind;
    range = (stays_in_range.acts (stored ∷ []) now act tag (are.0.range, tt)).0;
  },
  acted-fields elements values now act tag are.1,
)

put-kind : (element : Element) (value : ℕ) (content : Content) → IsKindOf element content → IsKindOf element (put_content value content)
put-kind element value (Number old) kind = kind
put-kind element value (Rate kept) kind = kind

put-field : (element : Element) (stored : StoredValue) (value : ℕ) (here : Bool) → (stored.field ≡ element.field) × IsKindOf element stored.content
    → let new : StoredValue = if here then record { field = stored.field; content = put_content value stored.content } else stored in (new.field ≡ element.field) × IsKindOf element new.content
put-field element stored value true is = (is.0, put-kind element value stored.content is.1)
put-field element stored value false is = is

put-fields : (elements : List Element) (values : List StoredValue) (field : Field) (value : ℕ) → value ≤ greatest field.datum → AreFieldsOf elements values → AreFieldsOf elements (with_value values field value)
put-fields [] [] field value fits are = tt
put-fields [] (stored ∷ values) field value fits are = absurd are
put-fields (element ∷ elements) [] field value fits are = absurd are
put-fields (element ∷ elements) (stored ∷ values) field value fits are =
    let put = put-field element stored value (same_field stored.field field) (are.0.field, are.0.kind) in (
      record { field = put.0; kind = put.1; range = (stays_in_range.puts (stored ∷ []) field value fits (are.0.range, tt)).0 },
      put-fields elements values field value fits are.1,
    )

put-all : (elements : List Element) (pairs : List Cell) (values : List StoredValue) → AllByRecursion (λ (pair : Cell). pair.value ≤ greatest pair.field.datum) pairs → AreFieldsOf elements values → AreFieldsOf elements (put_pairs pairs values)
put-all elements [] values fit are = are
put-all elements (pair ∷ pairs) values fit are = put-all elements pairs (with_value values pair.field pair.value) fit.1 (put-fields elements values pair.field pair.value fit.0 are)

-- ---- the records of a table

abbrev pub values_in : Key × Record → List StoredValue
values_in entry = entry.1.values

-- the data of these records are those of the columns
abbrev pub HoldData : List Column → List (Key × Record) → Type 0
HoldData columns records = AllByRecursion (AreDataOf columns) (map values_in records)

module _ (P : List StoredValue → Type 0) where
  -- of the record of a key, or of another that stands for it
  found-data : (key : Key) (records : List (Key × Record)) (z : Record) → AllByRecursion P (map values_in records) → P z.values → P (unwrap_or (record_at key records) z).values
  found-data key [] z all zero = zero
  found-data key (entry ∷ records) z all zero =
      elim (same_key key entry.0) as (λ b. P (unwrap_or (cond b (Some entry.1) (record_at key records)) z).values) [ true ↦ all.0 | false ↦ found-data key records z all.1 zero ]

  -- with room for a record more
  roomy-data : (spec : Spec) (tickets : List (Ticket × Key)) (records : List (Key × Record)) (key : Key) (roomy : List (Key × Record)) → space_in spec tickets records key ≡ Some roomy
      → AllByRecursion P (map values_in records) → AllByRecursion P (map values_in roomy)
  roomy-data spec tickets records key roomy is all =
      elim (is_some (record_at key records)) as (λ b. cond b (Some records) (room_in spec tickets records) ≡ Some roomy → AllByRecursion P (map values_in roomy)) [
        | true ↦ λ is. same (cc)
        | false ↦ λ is. elim (nat_lt (length records) spec.size) as (λ b. cond b (Some records) (cond (spec.nopurge || all_tracked tickets records) None (Some (purged (purge_of spec) tickets records))) ≡ Some roomy → AllByRecursion P (map values_in roomy)) [
          | true ↦ λ is. same (cc)
          | false ↦ λ is. elim (spec.nopurge || all_tracked tickets records) as (λ b. cond b None (Some (purged (purge_of spec) tickets records)) ≡ Some roomy → AllByRecursion P (map values_in roomy)) [ true ↦ λ is. cc | false ↦ λ is. fewer (cc) ] is
        ] is
      ] is
    where
      same : records ≡ roomy → AllByRecursion P (map values_in roomy)
      same is = subst (λ (rs : List (Key × Record)). AllByRecursion P (map values_in rs)) is all

      fewer : purged (purge_of spec) tickets records ≡ roomy → AllByRecursion P (map values_in roomy)
      fewer is = subst (λ (rs : List (Key × Record)). AllByRecursion P (map values_in rs)) is (all-filter values_in P (λ (entry : Key × Record). not (is_purged (purge_of spec) tickets records entry)) records all)

  -- with a record stored
  stored-data : (spec : Spec) (tickets : List (Ticket × Key)) (records : List (Key × Record)) (key : Key) (w : Record) (new : List (Key × Record)) → stored_in spec tickets records key w ≡ Some new
      → AllByRecursion P (map values_in records) → P w.values → AllByRecursion P (map values_in new)
  stored-data spec tickets records key w new is all one = go (space_in spec tickets records key) refl is
    where
      go : (o : Option (List (Key × Record))) → space_in spec tickets records key ≡ o → option_map (λ roomy. insert_entry key_cmp roomy key w) o ≡ Some new → AllByRecursion P (map values_in new)
      go None room is = cc
      go (Some roomy) room is =
          let same : insert_entry key_cmp roomy key w ≡ new = cc in
          subst (λ (rs : List (Key × Record)). AllByRecursion P (map values_in rs)) same (all-insert key_cmp key w (λ r. r.values) P roomy (roomy-data spec tickets records key roomy room all) one)

-- ---- steps

pub step_data : (old : State) (event : Event) (reply : Reply) (new : State) → IsTableEvent event → HoldData old.spec.columns old.records → Step old event reply new → HoldData new.spec.columns new.records
step_data old event reply new taken holds step = go (happened old event reply new step) taken
  where
    P : List StoredValue → Type 0
    P = AreDataOf old.spec.columns

    base : (now : ℕ) → HoldData old.spec.columns (begun old now).records
    base now = all-filter values_in (AreDataOf old.spec.columns) (stays (begun old now).clock old.tickets) old.records holds

    found : (now : ℕ) (key : Key) → AreDataOf old.spec.columns (found_or_zero (begun old now) key).values
    found now key = found-data (AreDataOf old.spec.columns) key (begun old now).records (zero_record old.spec.columns) (base now) (zero-fields (filter is_kept (elements old.spec.columns)))

    acts : (now : ℕ) (key : Key) (act : Act) → HasTag act → AreDataOf old.spec.columns (acted (found_or_zero (begun old now) key).values (begun old now).clock act)
    acts now key act tag = acted-fields (filter is_kept (elements old.spec.columns)) (found_or_zero (begun old now) key).values (begun old now).clock act tag (found now key)

    go : {slot : ℕ} {event : Event} {reply : Reply} {new : State} → Happens old slot event reply new → IsTableEvent event → HoldData new.spec.columns new.records
    go (idles event reply quiet idle) taken = base (moment_of event)
    go (tracks now key records room) taken =
        stored-data (AreDataOf old.spec.columns) old.spec old.tickets (begun old now).records key (connected (begun old now) key) records room (base now) (acts now key Connection tt)
    go (counts now ticket act key is) taken =
        let state : State = begun old now in
        all-set_value (same_key key) (λ (r : Record). r.values) (AreDataOf old.spec.columns) state.records (record (found_or_zero state key) { values = acted (found_or_zero state key).values state.clock act }) (base now) (acts now key act taken.tag)
    go (releases now ticket key is) taken =
        let state : State = begun old now in
        all-set_value (same_key key) (λ (r : Record). r.values) (AreDataOf old.spec.columns) state.records (touched state (found_or_zero (without_ticket state ticket) key)) (base now) (found now key)
    go (writes now key pairs created records room) taken =
        let fit = recursion_from_All (λ (pair : Cell). pair.value ≤ greatest pair.field.datum) pairs taken.values in
        stored-data (AreDataOf old.spec.columns) old.spec old.tickets (begun old now).records key (written (begun old now) key pairs) records room (base now)
        (put-all (filter is_kept (elements old.spec.columns)) pairs (found_or_zero (begun old now) key).values fit (found now key))
    go (removes now key free) taken = all-filter values_in (AreDataOf old.spec.columns) (λ (entry : Key × Record). not (same_key key entry.0)) (begun old now).records (base now)
    go (clears now choice) taken =
        let state : State = begun old now in
        all-filter values_in (AreDataOf old.spec.columns) (λ entry. not (is_matched state.clock old.tickets choice false entry)) state.records (base now)

pub run_data : (old : State) (events : List Event) (replies : List Reply) (new : State) → AllByRecursion IsTableEvent events → HoldData old.spec.columns old.records → Run old events replies new → HoldData new.spec.columns new.records
run_data old [] [] new taken holds run = subst (λ (s : State). HoldData s.spec.columns s.records) (sym run) holds
run_data old [] (r ∷ rs) new taken holds run = absurd run
run_data old (e ∷ es) [] new taken holds run = absurd run
run_data old (e ∷ es) (r ∷ rs) new taken holds run = run_data run.0 es rs new taken.1 (step_data old e r run.0 taken.0 holds run.1) run.2
