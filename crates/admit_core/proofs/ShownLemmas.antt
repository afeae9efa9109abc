-- No record keeps a value of the current connections, so a row shows the references of its key.
use Rattle.std.proofs.Common.{◌≡◌, ◌∙◌, ℕ, ◌==◌, true, false, cond, not, List, [], ◌∷◌, filter, map, Option, Some, None, unwrap_or, refl, sym, ap, subst, inl, inr}
use Rattle.std.specs.Prelude.{IfSome, find}
use Rattle.std.specs.Option.{option_map, option_map_or}
use Rattle.std.specs.Cmp.Lexicographic.{nat_list_cmp_total}
use Rattle.std.proofs.lemmas.Bool.{false≢true}
use Rattle.std.proofs.lemmas.Map.Entries.{All-lookup}
use Rattle.stored_data.specs.Acts.{acted, changed_field, content_of, is_kept, put_content, shown, with_value, zero_field, zero_of}
use Rattle.stored_data.specs.Data.{place}
use Rattle.stored_data.specs.Fields.{Element, elements, plain, same_field}
use Rattle.stored_data.specs.Stored.{is_column}
use Rattle.stored_data.specs.declared.act.Act.{Act}
use Rattle.stored_data.specs.declared.act.Act.TheVariants.{Connection}
use Rattle.stored_data.specs.declared.datum.Datum.TheVariants.{ConnCur}
use Rattle.stored_data.specs.declared.field.Field.{Field}
use Rattle.stored_data.specs.declared.stored_set.Column.{Column}
use Rattle.stored_data.specs.declared.values.StoredValue.{StoredValue}
use Rattle.stored_data.proofs.SameFields.{other_place}
use Rattle.stick_model.specs.Key.{Key, key_cmp, same_key}
use Rattle.stick_model.specs.Laws.{values_after}
use Rattle.stick_model.specs.Legal.{AreDataOf, AreFieldsOf, IsLegal}
use Rattle.stick_model.specs.Limits.{moment_of}
use Rattle.stick_model.specs.Run.{Run}
use Rattle.stick_model.specs.State.{State, empty_table, key_of, record_at, refs, row, stays, zero_record}
use Rattle.stick_model.specs.Step.{Outcome, Step, after, begun, found_or_zero, get, put_pairs}
use Rattle.stick_model.specs.declared.events.Event.{Event}
use Rattle.stick_model.specs.declared.events.Event.TheVariants.{Get, Track, Look, Count, Release, Put, Clear, ClearWhere, List as ListRows, Expire}
use Rattle.stick_model.specs.declared.replies.Reply.{Reply}
use Rattle.stick_model.specs.declared.replies.Reply.TheVariants.{Absent, Row as ARow}
use Rattle.stick_model.specs.declared.rows.Cell.{Cell}
use Rattle.stick_model.specs.declared.rows.Record.{Record}
use Rattle.stick_model.specs.declared.rows.Row.{Row}
use Rattle.stick_model.specs.declared.specification.Spec.{Spec}
use Rattle.stick_model.proofs.EntryLemmas.{lookup-filter-cases}
use Rattle.stick_model.proofs.FateLemmas.{Fate, gone, same, made, step_fate}
use Rattle.stick_model.proofs.LegalLemmas.{IsOrderly, empty_legal, orderly-from_legal, step_orderly}
use Rattle.stick_model.proofs.StepLemmas.{step_spec}
use Rattle.rule_eval.proofs.ShownLemmas.{shown_lem}
use Rattle.rule_eval.specs.Readings.{value_in}
use Rattle.admit_core.specs.Shown.{LookLaw, ReadingLaw, RowLaw, is_reading}

-- ---- data without a field

acted_none : (values : List StoredValue) (now : ℕ) (act : Act) (field : Field) → content_of values field ≡ None → content_of (acted values now act) field ≡ None
acted_none [] now act field h = refl
acted_none (stored ∷ values) now act field h =
    elim (same_field stored.field field) as (λ b. option_map (λ (s : StoredValue). s.content) (cond b (Some stored) (find (λ (s : StoredValue). same_field s.field field) values)) ≡ None
    → option_map (λ (s : StoredValue). s.content) (cond b (Some (changed_field now act stored)) (find (λ (s : StoredValue). same_field s.field field) (acted values now act))) ≡ None) [
      | true ↦ λ h. cc
      | false ↦ λ h. acted_none values now act field h
    ] h

put_none : (values : List StoredValue) (other field : Field) (value : ℕ) → content_of values field ≡ None → content_of (with_value values other value) field ≡ None
put_none [] other field value h = refl
put_none (stored ∷ values) other field value h =
    elim (same_field stored.field other) as (λ c. content_of (cond c (record { field = stored.field; content = put_content value stored.content }) stored ∷ with_value values other value) field ≡ None) [
      | true ↦ elim (same_field stored.field field) as (λ b. option_map (λ (s : StoredValue). s.content) (cond b (Some stored) (find (λ (s : StoredValue). same_field s.field field) values)) ≡ None
          → option_map (λ (s : StoredValue). s.content) (cond b (Some (record { field = stored.field; content = put_content value stored.content })) (find (λ (s : StoredValue). same_field s.field field) (with_value values other value))) ≡ None) [
            | true ↦ λ h. cc
            | false ↦ λ h. put_none values other field value h
          ] h
      | false ↦ elim (same_field stored.field field) as (λ b. option_map (λ (s : StoredValue). s.content) (cond b (Some stored) (find (λ (s : StoredValue). same_field s.field field) values)) ≡ None
          → option_map (λ (s : StoredValue). s.content) (cond b (Some stored) (find (λ (s : StoredValue). same_field s.field field) (with_value values other value))) ≡ None) [
            | true ↦ λ h. cc
            | false ↦ λ h. put_none values other field value h
          ] h
    ]

puts_none : (pairs : List Cell) (values : List StoredValue) (field : Field) → content_of values field ≡ None → content_of (put_pairs pairs values) field ≡ None
puts_none [] values field h = h
puts_none (pair ∷ pairs) values field h = puts_none pairs (with_value values pair.field pair.value) field (put_none values pair.field field pair.value h)

-- a field of another datum is not that of conn_cur
not_conn_cur : (field : Field) → (place field.datum == place ConnCur) ≡ false → same_field field (plain ConnCur) ≡ false
not_conn_cur field is = other_place field (plain ConnCur) is

-- a new record has none of conn_cur
zeros_none : (all : List Element) → content_of (map zero_field (filter is_kept all)) (plain ConnCur) ≡ None
zeros_none [] = refl
zeros_none (element ∷ all) =
    elim (place element.field.datum == place ConnCur) as (λ b. (place element.field.datum == place ConnCur) ≡ b → content_of (map zero_field (cond (not b) (element ∷ filter is_kept all) (filter is_kept all))) (plain ConnCur) ≡ None) [
      | true ↦ λ is. zeros_none all
      | false ↦ λ is.
          ap (λ b. option_map (λ (s : StoredValue). s.content) (cond b (Some (zero_field element)) (find (λ (s : StoredValue). same_field s.field (plain ConnCur)) (map zero_field (filter is_kept all)))))
          (not_conn_cur element.field is) ∙ zeros_none all
    ] refl

zero_none : (columns : List Column) → content_of (zero_of columns) (plain ConnCur) ≡ None
zero_none columns = zeros_none (elements columns)

values_none : (clock : ℕ) (event : Event) (values : List StoredValue) → content_of values (plain ConnCur) ≡ None → content_of (values_after clock event values) (plain ConnCur) ≡ None
values_none clock (Track now key) values h = acted_none values clock Connection (plain ConnCur) h
values_none clock (Count now ticket act) values h = acted_none values clock act (plain ConnCur) h
values_none clock (Put now key pairs) values h = puts_none pairs values (plain ConnCur) h
values_none clock (Get now key) values h = h
values_none clock (Look now ticket) values h = h
values_none clock (Release now ticket) values h = h
values_none clock (Clear now key) values h = h
values_none clock (ClearWhere now choice) values h = h
values_none clock (ListRows now choice) values h = h
values_none clock (Expire now) values h = h

-- ---- runs

-- no record has any of conn_cur
abbrev KeepsNone : State → Type 0
KeepsNone state = (key : Key) (found : Record) → record_at key state.records ≡ Some found → content_of found.values (plain ConnCur) ≡ None

begun_none : (old : State) (now : ℕ) → IsOrderly old → KeepsNone old → KeepsNone (begun old now)
begun_none old now orderly keeps key found is =
    elim (lookup-filter-cases key_cmp nat_list_cmp_total key (stays (begun old now).clock old.tickets) old.records orderly.sound.keys_rise) [
      | inl stays_there ↦ keeps key found (sym stays_there ∙ is)
      | inr left_out ↦ cc
    ]

found_none : (state : State) (key : Key) (o : Option Record) → record_at key state.records ≡ o → KeepsNone state → content_of (unwrap_or o (zero_record state.spec.columns)).values (plain ConnCur) ≡ None
found_none state key None is keeps = zero_none state.spec.columns
found_none state key (Some found) is keeps = keeps key found is

step_none : (old : State) (event : Event) (reply : Reply) (new : State) → IsOrderly old → KeepsNone old → Step old event reply new → KeepsNone new
step_none old event reply new orderly keeps step key found is = go (step_fate old event reply new key orderly step)
  where
    go : Fate old (begun old (moment_of event)) event reply key (record_at key new.records) → content_of found.values (plain ConnCur) ≡ None
    go (gone free none) = cc
    go (same now untold) = begun_none old (moment_of event) orderly keeps key found (sym now ∙ is)
    go (made after now of_it told values) =
        let begins : State = begun old (moment_of event) in
        let one : found ≡ after = cc in
        ap (λ (r : Record). content_of r.values (plain ConnCur)) one ∙ ap (λ vs. content_of vs (plain ConnCur)) values
        ∙ values_none begins.clock event (found_or_zero begins key).values (found_none begins key (record_at key begins.records) refl (begun_none old (moment_of event) orderly keeps))

record Keeps (spec : Spec) (state : State) : Type 0 where
  pub orderly : IsOrderly state
  pub none : KeepsNone state
  pub same_spec : state.spec ≡ spec

run_none : (spec : Spec) (old : State) (events : List Event) (replies : List Reply) (new : State) → Keeps spec old → Run old events replies new → Keeps spec new
run_none spec old [] [] new keeps run = subst (Keeps spec) (sym run) keeps
run_none spec old [] (r ∷ rs) new keeps run = absurd run
run_none spec old (e ∷ es) [] new keeps run = absurd run
run_none spec old (e ∷ es) (r ∷ rs) new keeps run =
    run_none spec run.0 es rs new (record { orderly = step_orderly old e r run.0 keeps.orderly run.1; none = step_none old e r run.0 keeps.orderly keeps.none run.1; same_spec = step_spec old e r run.0 run.1 ∙ keeps.same_spec }) run.2

-- ---- looks

shows : (state : State) (key : Key) (o : Option Record) (r : Row) → is_column state.spec.columns ConnCur ≡ true → KeepsNone state → record_at key state.records ≡ o → option_map_or (λ found. ARow (row state key found)) o Absent ≡ ARow r → value_in r.cells ConnCur ≡ r.refs
shows state key None r stored keeps is h = cc
shows state key (Some found) r stored keeps is h =
    let shown_row : row state key found ≡ r = cc in
    subst (λ (s : Row). value_in s.cells ConnCur ≡ s.refs) shown_row
    (shown_lem state.spec.columns state.clock (refs key state.tickets) key found stored (ap (option_map (shown state.clock)) (keeps key found is)))

looked : (state : State) (o : Option Key) (r : Row) → is_column state.spec.columns ConnCur ≡ true → KeepsNone state → (option_map_or (get state) o (Absent, state)).0 ≡ ARow r → value_in r.cells ConnCur ≡ r.refs
looked state None r stored keeps h = cc
looked state (Some key) r stored keeps h = shows state key (record_at key state.records) r stored keeps refl h

pub look_law : LookLaw
look_law spec events replies state now ticket r later stored run step =
    let start : Keeps spec (empty_table spec) = record { orderly = orderly-from_legal (empty_table spec) (empty_legal spec); none = λ key found is. cc; same_spec = refl } in
    let keeps : Keeps spec state = run_none spec (empty_table spec) events replies state start run in
    let begins : State = begun state now in
    looked begins (key_of ticket state.tickets) r (ap (λ (s : Spec). is_column s.columns ConnCur) keeps.same_spec ∙ stored) (begun_none state now keeps.orderly keeps.none) (ap (λ (o : Outcome). o.0) step.gives)

-- ---- legal states

kept_none : (element : Element) (all : List Element) (values : List StoredValue) → ((rest : List StoredValue) → AreFieldsOf (filter is_kept all) rest → content_of rest (plain ConnCur) ≡ None) → (place element.field.datum == place ConnCur) ≡ false
    → AreFieldsOf (element ∷ filter is_kept all) values → content_of values (plain ConnCur) ≡ None
kept_none element all [] later is are = absurd are
kept_none element all (stored ∷ values) later is are =
    ap (λ b. option_map (λ (s : StoredValue). s.content) (cond b (Some stored) (find (λ (s : StoredValue). same_field s.field (plain ConnCur)) values)))
    (ap (λ (f : Field). same_field f (plain ConnCur)) are.0.field ∙ not_conn_cur element.field is) ∙ later values are.1

fields_none : (all : List Element) (values : List StoredValue) → AreFieldsOf (filter is_kept all) values → content_of values (plain ConnCur) ≡ None
fields_none [] [] are = refl
fields_none [] (stored ∷ values) are = absurd are
fields_none (element ∷ all) values are =
    elim (place element.field.datum == place ConnCur) as (λ b. (place element.field.datum == place ConnCur) ≡ b → AreFieldsOf (cond (not b) (element ∷ filter is_kept all) (filter is_kept all)) values → content_of values (plain ConnCur) ≡ None) [
      | true ↦ λ is are. fields_none all values are
      | false ↦ λ is are. kept_none element all values (λ rest later. fields_none all rest later) is are
    ] refl are

legal_none : (state : State) → IsLegal state → KeepsNone state
legal_none state legal key found is =
    let all : IfSome (record_at key state.records) (λ (r : Record). AreDataOf state.spec.columns r.values) = All-lookup (λ (r : Record). AreDataOf state.spec.columns r.values) (same_key key) state.records legal.values in
    let here : AreDataOf state.spec.columns found.values = subst (λ o. IfSome o (λ (r : Record). AreDataOf state.spec.columns r.values)) is all in
    fields_none (elements state.spec.columns) found.values here

row_shows : (state : State) (key : Key) (found : Record) → is_column state.spec.columns ConnCur ≡ true → KeepsNone state → record_at key state.records ≡ Some found → value_in (row state key found).cells ConnCur ≡ refs key state.tickets
row_shows state key found stored keeps is = shown_lem state.spec.columns state.clock (refs key state.tickets) key found stored (ap (option_map (shown state.clock)) (keeps key found is))

pub row_law : RowLaw
row_law state key found legal stored is = row_shows state key found stored (legal_none state legal) is

-- ---- Gets and Looks

got : (state : State) (key : Key) (o : Option Record) (shown_row : Row) → is_column state.spec.columns ConnCur ≡ true → KeepsNone state → record_at key state.records ≡ o → option_map_or (λ found. ARow (row state key found)) o Absent ≡ ARow shown_row
    → value_in shown_row.cells ConnCur ≡ refs shown_row.key state.tickets
got state key None r stored keeps is h = cc
got state key (Some found) r stored keeps is h =
    let same_row : row state key found ≡ r = cc in
    subst (λ (s : Row). value_in s.cells ConnCur ≡ refs s.key state.tickets) same_row (row_shows state key found stored keeps is)

of_ticket : (state : State) (o : Option Key) (r : Row) → is_column state.spec.columns ConnCur ≡ true → KeepsNone state → (option_map_or (get state) o (Absent, state)).0 ≡ ARow r → value_in r.cells ConnCur ≡ refs r.key state.tickets
of_ticket state None r stored keeps h = cc
of_ticket state (Some key) r stored keeps h = got state key (record_at key state.records) r stored keeps refl h

pub reading_law : ReadingLaw
reading_law state event r later legal stored reads step = by event reads (ap (λ (o : Outcome). o.0) step.gives)
  where
    keeps : (now : ℕ) → KeepsNone (begun state now)
    keeps now = begun_none state now (orderly-from_legal state legal) (legal_none state legal)

    by : (event : Event) → is_reading event ≡ true → (after state event 0).0 ≡ ARow r → value_in r.cells ConnCur ≡ refs r.key state.tickets
    by (Get now key) reads is = got (begun state now) key (record_at key (begun state now).records) r stored (keeps now) refl is
    by (Look now ticket) reads is = of_ticket (begun state now) (key_of ticket state.tickets) r stored (keeps now) is
    by (Track now key) reads is = absurd (false≢true reads)
    by (Count now ticket act) reads is = absurd (false≢true reads)
    by (Release now ticket) reads is = absurd (false≢true reads)
    by (Put now key pairs) reads is = absurd (false≢true reads)
    by (Clear now key) reads is = absurd (false≢true reads)
    by (ClearWhere now choice) reads is = absurd (false≢true reads)
    by (ListRows now choice) reads is = absurd (false≢true reads)
    by (Expire now) reads is = absurd (false≢true reads)
