-- A rate's tally is that of what a run counted since the record was made.
use Rattle.std.proofs.Common.{◌≡◌, ℕ, ◌≤◌, ◌<◌, ◌==◌, max, refl, sym, ◌∙◌, ap, subst, ◌+◌, List, [], ◌∷◌, ◌++◌, length, get_or, zero, suc, map, filter, Bool, true, false, cond, not, Option, Some, None, is_some, unwrap_or, arith, ◌⊎◌, inl, inr}
use Rattle.std.specs.Prelude.{find, fold, if◌then◌else◌}
use Rattle.std.specs.List.{AllByRecursion}
use Rattle.std.specs.Option.{option_map, option_map_or}
use Rattle.std.specs.Cmp.Lexicographic.{nat_list_cmp_total}
use Rattle.std.proofs.lemmas.Bool.{false≢true}
use Rattle.std.proofs.lemmas.Bool.Decides.{nat_tests}
use Rattle.std.proofs.lemmas.List.Elements.{All-from_recursion, All-contains}
use Rattle.rate_window.specs.Rate.{Count as Rated, IsInOrder as AreInOrder, AreUpTo, Tally, tally, rate}
use Rattle.rate_window.proofs.Counts.{with_count-tally, rate_of-tally}
use Rattle.stored_data.specs.Acts.{acted, change, change_at, changed, changed_field, content_of, shown, put_content, with_value, is_kept, zero_field, zero_of}
use Rattle.stored_data.specs.Data.{place, is_rate, is_array}
use Rattle.stored_data.specs.Fields.{Element, element, elements, elements_from, elements_of, size, plain, same_field}
use Rattle.stored_data.specs.Stored.{IsInOrder, IsPeriod}
use Rattle.stored_data.proofs.Columns.{place-injective}
use Rattle.stored_data.proofs.Elements.{array_kept}
use Rattle.stored_data.proofs.SameFields.{same_field-is, same_field-refl, other_place}
use Rattle.stored_data.proofs.Tallies.{rates_count}
use Rattle.stored_data.specs.declared.stored_set.Column.{Column}
use Rattle.stored_data.specs.declared.datum.Datum.{Datum}
use Rattle.stored_data.specs.declared.field.Field.{Field}
use Rattle.stored_data.specs.declared.datum.Datum.TheVariants.{ConnCur}
use Rattle.stored_data.specs.declared.act.Act.{Act}
use Rattle.stored_data.specs.declared.act.Act.TheVariants.{Connection}
use Rattle.stored_data.specs.declared.act.Change.{Change}
use Rattle.stored_data.specs.declared.act.Change.TheVariants.{Keep, Add, Set}
use Rattle.stored_data.specs.declared.values.Content.{Content}
use Rattle.stored_data.specs.declared.values.Content.TheVariants.{Number, Rate}
use Rattle.stored_data.specs.declared.values.StoredValue.{StoredValue}
use Rattle.stick_model.specs.Key.{Key, key_cmp, same_key}
use Rattle.stick_model.specs.State.{State, empty_table, record_at, zero_record, stays}
use Rattle.stick_model.specs.Step.{Step, begun, put_pairs, found_or_zero}
use Rattle.stick_model.specs.Run.{Run}
use Rattle.stick_model.specs.Limits.{moment_of}
use Rattle.stick_model.specs.Laws.{values_after, TallyLaw}
use Rattle.stick_model.specs.Counted.{steps_of, act_told, act_for, added, counted_by, counted_with, counted_since}
use Rattle.stick_model.specs.declared.rows.Record.{Record}
use Rattle.stick_model.specs.declared.rows.Cell.{Cell}
use Rattle.stick_model.specs.declared.specification.Spec.{Spec}
use Rattle.stick_model.specs.declared.events.Event.{Event}
use Rattle.stick_model.specs.declared.events.Event.TheVariants.{Track, Count, Put}
use Rattle.stick_model.specs.declared.replies.Reply.{Reply}
use Rattle.stick_model.proofs.TestLemmas.{eq-from}
use Rattle.stick_model.proofs.KeyLemmas.{same_key-refl}
use Rattle.stick_model.proofs.EntryLemmas.{lookup-filter-cases}
use Rattle.stick_model.proofs.StepLemmas.{AllByRecursion-implies, AllByRecursion-push, step_spec, step_clock}
use Rattle.stick_model.proofs.LimitLemmas.{append-nil}
use Rattle.stick_model.proofs.LegalLemmas.{IsOrderly, orderly-from_legal, step_orderly, empty_legal}
use Rattle.stick_model.proofs.FateLemmas.{Fate, gone, same, made, act_made, taken, step_fate}

-- ---- the content of a field

pub content-acted : (values : List StoredValue) (now : ℕ) (act : Act) (field : Field) (content : Content) → content_of values field ≡ Some content → content_of (acted values now act) field ≡ Some (changed now field.datum (change_at act field) content)
content-acted [] now act field content h = cc
content-acted (stored ∷ values) now act field content h =
    elim (same_field stored.field field) as (λ b. same_field stored.field field ≡ b → option_map (λ (f : StoredValue). f.content) (cond b (Some stored) (find (λ (f : StoredValue). same_field f.field field) values)) ≡ Some content
    → option_map (λ (f : StoredValue). f.content) (cond b (Some (changed_field now act stored)) (find (λ (f : StoredValue). same_field f.field field) (acted values now act))) ≡ Some (changed now field.datum (change_at act field) content)) [
      | true ↦ λ is h. let one : stored.field ≡ field = same_field-is stored.field field is in let it : stored.content ≡ content = cc in (λ i. Some (changed now ((one i).datum) (change_at act (one i)) (it i)))
      | false ↦ λ _ h. content-acted values now act field content h
    ] refl h

put-rate : (values : List StoredValue) (field other : Field) (value : ℕ) (kept : Tally) → content_of values field ≡ Some (Rate kept) → content_of (with_value values other value) field ≡ Some (Rate kept)
put-rate [] field other value kept h = cc
put-rate (stored ∷ values) field other value kept h =
    elim (same_field stored.field other) as (λ c. content_of (cond c (record { field = stored.field; content = put_content value stored.content }) stored ∷ with_value values other value) field ≡ Some (Rate kept)) [
      | true ↦ elim (same_field stored.field field) as (λ b. option_map (λ (f : StoredValue). f.content) (cond b (Some stored) (find (λ (f : StoredValue). same_field f.field field) values)) ≡ Some (Rate kept)
          → option_map (λ (f : StoredValue). f.content) (cond b (Some (record { field = stored.field; content = put_content value stored.content })) (find (λ (f : StoredValue). same_field f.field field) (with_value values other value))) ≡ Some (Rate kept)) [
            | true ↦ λ h. let it : stored.content ≡ Rate kept = cc in ap (λ (content : Content). Some (put_content value content)) it
            | false ↦ λ h. put-rate values field other value kept h
          ] h
      | false ↦ elim (same_field stored.field field) as (λ b. option_map (λ (f : StoredValue). f.content) (cond b (Some stored) (find (λ (f : StoredValue). same_field f.field field) values)) ≡ Some (Rate kept)
          → option_map (λ (f : StoredValue). f.content) (cond b (Some stored) (find (λ (f : StoredValue). same_field f.field field) (with_value values other value))) ≡ Some (Rate kept)) [
            | true ↦ λ h. h
            | false ↦ λ h. put-rate values field other value kept h
          ] h
    ]

puts-rate : (pairs : List Cell) (values : List StoredValue) (field : Field) (kept : Tally) → content_of values field ≡ Some (Rate kept) → content_of (put_pairs pairs values) field ≡ Some (Rate kept)
puts-rate [] values field kept h = h
puts-rate (pair ∷ pairs) values field kept h = puts-rate pairs (with_value values pair.field pair.value) field kept (put-rate values field pair.field pair.value kept h)

-- ---- the data of a new key

rate_kept : (datum : Datum) → is_rate datum ≡ true → (place datum == place ConnCur) ≡ false
rate_kept datum rate = go (place datum == place ConnCur) refl
  where
    go : (b : Bool) → (place datum == place ConnCur) ≡ b → b ≡ false
    go true is = let one : datum ≡ ConnCur = place-injective datum ConnCur (eq-from (place datum) (place ConnCur) is) in absurd (false≢true (ap is_rate (sym one) ∙ rate))
    go false is = refl

rate_alone : (datum : Datum) → is_rate datum ≡ true → is_array datum ≡ false
rate_alone datum rate = go (is_array datum) refl
  where
    go : (b : Bool) → is_array datum ≡ b → b ≡ false
    go true is = absurd (false≢true (sym ((array_kept datum is).0) ∙ rate))
    go false is = refl

zeros : List Element → List StoredValue
zeros all = map zero_field (filter is_kept all)

-- a column of another datum is passed over
zeros-skip : (column : Column) (field : Field) (index count : ℕ) (later : List Element) → (place column.datum == place field.datum) ≡ false → content_of (zeros (elements_from column index count ++ later)) field ≡ content_of (zeros later) field
unfolding zeros
zeros-skip column field index zero later other = refl
zeros-skip column field index (suc count) later other =
    elim (is_kept (element column index)) as (λ b. content_of (map zero_field (cond b (element column index ∷ filter is_kept rest) (filter is_kept rest))) field ≡ content_of (map zero_field (filter is_kept later)) field) [
      | true ↦ ap (λ b. option_map (λ (f : StoredValue). f.content) (cond b (Some (zero_field (element column index))) (find (λ (f : StoredValue). same_field f.field field) (map zero_field (filter is_kept rest))))) (other_place (element column index).field field other)
          ∙ zeros-skip column field (index + 1) count later other
      | false ↦ zeros-skip column field (index + 1) count later other
    ]
  where
    rest : List Element
    rest = elements_from column (index + 1) count ++ later

-- and that of the rate has a tally of nothing
zeros-own : (column : Column) (later : List Element) → is_rate column.datum ≡ true → content_of (zeros (elements_of column ++ later)) (plain column.datum) ≡ Some (Rate (tally [] column.period))
unfolding zeros
zeros-own column later rate =
    let kept : is_kept (element column 0) ≡ true = ap not (rate_kept column.datum rate) in
    ap (λ b. content_of (map zero_field (filter is_kept (elements_from column 0 (if b then column.count else 1) ++ later))) (plain column.datum)) (rate_alone column.datum rate)
    ∙ ap (λ b. content_of (map zero_field (cond b (element column 0 ∷ filter is_kept later) (filter is_kept later))) (plain column.datum)) kept
    ∙ ap (λ b. option_map (λ (f : StoredValue). f.content) (cond b (Some (zero_field (element column 0))) (find (λ (f : StoredValue). same_field f.field (plain column.datum)) (map zero_field (filter is_kept later))))) (same_field-refl (plain column.datum))
    ∙ ap (λ b. Some (if b then Rate (tally [] column.period) else Number 0)) rate

zero-at : (columns : List Column) (column : Column) (k : ℕ) → k < length columns → get_or columns k column ≡ column → IsInOrder columns → is_rate column.datum ≡ true → content_of (zero_of columns) (plain column.datum) ≡ Some (Rate (tally [] column.period))
unfolding zeros
zero-at [] column k below is in_order rate = absurd (omega arith)
zero-at (first ∷ columns) column zero below is in_order rate =
    subst (λ (c : Column). content_of (zero_of (c ∷ columns)) (plain column.datum) ≡ Some (Rate (tally [] column.period))) (sym is) (zeros-own column (elements columns) rate)
zero-at (first ∷ columns) column (suc k) below is in_order rate =
    let rest = zero-at columns column k (omega arith) is in_order.1 rate in
    let lower : place first.datum < place column.datum = All-contains (λ (other : Column). place first.datum < place other.datum) columns column (All-from_recursion (λ (other : Column). place first.datum < place other.datum) columns in_order.0) (k, omega arith, is) in
    zeros-skip first (plain column.datum) 0 (size first) (elements columns) (apart (place first.datum) (place column.datum) lower) ∙ rest
  where
    apart : (a b : ℕ) → a < b → (a == b) ≡ false
    apart a b lt = grind (arith, nat_tests)

-- ---- counts up to a moment

later-counts : (counts : List Rated) (a b : ℕ) → a ≤ b → AllByRecursion (λ (count : Rated). count.moment ≤ a) counts → AllByRecursion (λ (count : Rated). count.moment ≤ b) counts
later-counts counts a b le h = AllByRecursion-implies (λ (count : Rated). count.moment ≤ a) (λ (count : Rated). count.moment ≤ b) (λ count k. omega arith) counts h

up_to-later : (counts : List Rated) (a b : ℕ) → a ≤ b → AreUpTo counts a → AreUpTo counts b
up_to-later counts a b le up_to = record { in_order = up_to.in_order; none_later = later-counts counts a b le up_to.none_later }

in_order-push : (counts : List Rated) (count : Rated) → AreInOrder counts → AllByRecursion (λ (before : Rated). before.moment ≤ count.moment) counts → AreInOrder (counts ++ count ∷ [])
in_order-push [] count in_order before = (tt, tt)
in_order-push (first ∷ counts) count in_order before =
    (AllByRecursion-push (λ (next : Rated). first.moment ≤ next.moment) counts count in_order.0 before.0, in_order-push counts count in_order.1 before.1)

up_to-push : (counts : List Rated) (now amount : ℕ) → AreUpTo counts now → AreUpTo (counts ++ record { moment = now; amount = amount } ∷ []) now
up_to-push counts now amount up_to = record {
  in_order = in_order-push counts (record { moment = now; amount = amount }) up_to.in_order up_to.none_later;
  none_later = AllByRecursion-push (λ (count : Rated). count.moment ≤ now) counts (record { moment = now; amount = amount }) up_to.none_later (omega arith);
}

up_to-added : (counts : List Rated) (now : ℕ) (change : Change) → AreUpTo counts now → AreUpTo (counts ++ added now change) now
up_to-added counts now (Add n) up_to = up_to-push counts now n up_to
up_to-added counts now Keep up_to = subst (λ cs. AreUpTo cs now) (sym (append-nil counts)) up_to
up_to-added counts now (Set n) up_to = subst (λ cs. AreUpTo cs now) (sym (append-nil counts)) up_to

-- a change of a rate keeps its tally
changed-tally : (counts : List Rated) (now period : ℕ) (datum : Datum) (change : Change) → 0 < period → AreUpTo counts now → changed now datum change (Rate (tally counts period)) ≡ Rate (tally (counts ++ added now change) period)
changed-tally counts now period datum (Add n) some up_to = ap Rate (with_count-tally counts period now n some up_to)
changed-tally counts now period datum Keep some up_to = ap (λ cs. Rate (tally cs period)) (sym (append-nil counts))
changed-tally counts now period datum (Set n) some up_to = ap (λ cs. Rate (tally cs period)) (sym (append-nil counts))

-- ---- a step

-- what was counted is kept by the record of the key, where it has one
record Stands (key : Key) (column : Column) (state : State) (counts : List Rated) : Type 0 where
  up_to : AreUpTo counts state.clock
  kept : (found : Record) → record_at key state.records ≡ Some found → content_of found.values (plain column.datum) ≡ Some (Rate (tally counts column.period))

module _ (key : Key) (column : Column) (some : 0 < column.period) (rated : is_rate column.datum ≡ true) where
  abbrev counts_for : ℕ → Option Act → List Rated
  counts_for clock act = option_map_or (λ act. added clock (change act column.datum)) act []

  up_to-for : (counts : List Rated) (clock : ℕ) (act : Option Act) → AreUpTo counts clock → AreUpTo (counts ++ counts_for clock act) clock
  up_to-for counts clock None up_to = subst (λ cs. AreUpTo cs clock) (sym (append-nil counts)) up_to
  up_to-for counts clock (Some act) up_to = up_to-added counts clock (change act column.datum) up_to

  -- what an event makes of the data
  values-tally : (event : Event) (values : List StoredValue) (clock : ℕ) (counts : List Rated) → AreUpTo counts clock → content_of values (plain column.datum) ≡ Some (Rate (tally counts column.period))
      → content_of (values_after clock event values) (plain column.datum) ≡ Some (Rate (tally (counts ++ counts_for clock (act_made event)) column.period))
  values-tally (Track now subject) values clock counts up_to h =
      content-acted values clock Connection (plain column.datum) (Rate (tally counts column.period)) h ∙ ap (λ change. Some (changed clock column.datum change (Rate (tally counts column.period)))) (rates_count.whole Connection column.datum rated) ∙ ap Some (changed-tally counts clock column.period column.datum (change Connection column.datum) some up_to)
  values-tally (Count now ticket act) values clock counts up_to h =
      content-acted values clock act (plain column.datum) (Rate (tally counts column.period)) h ∙ ap (λ change. Some (changed clock column.datum change (Rate (tally counts column.period)))) (rates_count.whole act column.datum rated) ∙ ap Some (changed-tally counts clock column.period column.datum (change act column.datum) some up_to)
  values-tally (Put now subject pairs) values clock counts up_to h = puts-rate pairs values (plain column.datum) (tally counts column.period) h ∙ ap (λ cs. Some (Rate (tally cs column.period))) (sym (append-nil counts))
  values-tally event values clock counts up_to h = h ∙ ap (λ cs. Some (Rate (tally cs column.period))) (sym (append-nil counts))

  step_stands : (old : State) (event : Event) (reply : Reply) (new : State) (counts : List Rated) → content_of (zero_of old.spec.columns) (plain column.datum) ≡ Some (Rate (tally [] column.period))
      → IsOrderly old → Stands key column old counts → Step old event reply new → Stands key column new (counted_with key column.datum counts (taken old event reply))
  step_stands old event reply new counts fresh orderly stands step =
      let begins : State = begun old (moment_of event) in
      ending (record_at key begins.records) refl (lookup-filter-cases key_cmp nat_list_cmp_total key (stays begins.clock old.tickets) old.records orderly.sound.keys_rise) (step_fate old event reply new key orderly step)
    where
      clock : ℕ
      clock = max old.clock (moment_of event)

      -- from where the clock has come to the event's moment
      go : (before : List Rated) → AreUpTo before (max old.clock (moment_of event)) → content_of (found_or_zero (begun old (moment_of event)) key).values (plain column.datum) ≡ Some (Rate (tally before column.period))
          → Fate old (begun old (moment_of event)) event reply key (record_at key new.records) → Stands key column new (before ++ counted_by key column.datum (taken old event reply))
      go before up_to stood fate = record {
        up_to = subst (AreUpTo (before ++ counted_by key column.datum (taken old event reply))) (sym (step_clock old event reply new step)) (up_to-for before (max old.clock (moment_of event)) (act_for key (taken old event reply)) up_to);
        kept = λ found is. keeps found is fate;
      }
        where
          keeps : (found : Record) → record_at key new.records ≡ Some found → Fate old (begun old (moment_of event)) event reply key (record_at key new.records)
              → content_of found.values (plain column.datum) ≡ Some (Rate (tally (before ++ counted_by key column.datum (taken old event reply)) column.period))
          keeps found is (gone free none) = absurd (cc)
          keeps found is (same now untold) =
              let there : record_at key (begun old (moment_of event)).records ≡ Some found = sym now ∙ is in
              let none : act_for key (taken old event reply) ≡ None = untold (ap is_some there) in
              sym (ap (λ o. content_of (unwrap_or o (zero_record old.spec.columns)).values (plain column.datum)) there) ∙ stood
              ∙ ap (λ cs. Some (Rate (tally cs column.period))) (sym (append-nil before) ∙ ap (λ o. before ++ counts_for (max old.clock (moment_of event)) o) (sym none))
          keeps found is (made after now of_it told values) =
              let one : found ≡ after = cc in
              let act : act_for key (taken old event reply) ≡ act_made event =
              ap (λ o. cond (option_map_or (same_key key) o false) (act_told event reply) None) of_it ∙ ap (λ b. cond b (act_told event reply) None) (same_key-refl key) ∙ told in
              ap (λ (r : Record). content_of r.values (plain column.datum)) one ∙ ap (λ vs. content_of vs (plain column.datum)) values
              ∙ values-tally event (found_or_zero (begun old (moment_of event)) key).values (max old.clock (moment_of event)) before up_to stood
              ∙ ap (λ o. Some (Rate (tally (before ++ counts_for (max old.clock (moment_of event)) o) column.period))) (sym act)

      ending : (o : Option Record) → record_at key (begun old (moment_of event)).records ≡ o
          → (record_at key (begun old (moment_of event)).records ≡ record_at key old.records) ⊎ (record_at key (begun old (moment_of event)).records ≡ None)
          → Fate old (begun old (moment_of event)) event reply key (record_at key new.records) → Stands key column new (counted_with key column.datum counts (taken old event reply))
      ending None none cases fate =
          subst (λ b. Stands key column new ((if b then counts else []) ++ counted_by key column.datum (taken old event reply))) (sym (ap is_some none))
          (go [] (record { in_order = tt; none_later = tt }) (ap (λ o. content_of (unwrap_or o (zero_record old.spec.columns)).values (plain column.datum)) none ∙ fresh) fate)
      ending (Some found) is (inr none) fate = absurd (cc)
      ending (Some found) is (inl same_as) fate =
          subst (λ b. Stands key column new ((if b then counts else []) ++ counted_by key column.datum (taken old event reply))) (sym (ap is_some is))
          (go counts (up_to-later counts old.clock (max old.clock (moment_of event)) (omega arith) stands.up_to) (ap (λ o. content_of (unwrap_or o (zero_record old.spec.columns)).values (plain column.datum)) is ∙ stands.kept found (sym same_as ∙ is)) fate)

  run_stands : (old : State) (events : List Event) (replies : List Reply) (new : State) (counts : List Rated) → content_of (zero_of old.spec.columns) (plain column.datum) ≡ Some (Rate (tally [] column.period))
      → IsOrderly old → Stands key column old counts → (run : Run old events replies new) → Stands key column new (fold (counted_with key column.datum) counts (steps_of old events replies new run))
  run_stands old [] [] new counts fresh orderly stands run = subst (λ (s : State). Stands key column s counts) (sym run) stands
  run_stands old [] (r ∷ rs) new counts fresh orderly stands run = absurd run
  run_stands old (e ∷ es) [] new counts fresh orderly stands run = absurd run
  run_stands old (e ∷ es) (r ∷ rs) new counts fresh orderly stands run =
      run_stands run.0 es rs new (counted_with key column.datum counts (taken old e r))
      (ap (λ (spec : Spec). content_of (zero_of spec.columns) (plain column.datum)) (step_spec old e r run.0 run.1) ∙ fresh)
      (step_orderly old e r run.0 orderly run.1) (step_stands old e r run.0 counts fresh orderly stands run.1) run.2

-- ---- the law

period-some : (rate : Bool) (period : ℕ) → rate ≡ true → IsPeriod rate period → 0 < period
period-some true period is h = omega (arith, h.0)
period-some false period is h = absurd (false≢true is)

pub tally-law : TallyLaw
tally-law spec events replies new run key found column sound there rated is =
    let period : 0 < column.period = period-some (is_rate column.datum) column.period rated
    (All-contains (λ (c : Column). IsPeriod (is_rate c.datum) c.period) spec.columns column (All-from_recursion (λ (c : Column). IsPeriod (is_rate c.datum) c.period) spec.columns sound.periods) there) in
    let fresh : content_of (zero_of spec.columns) (plain column.datum) ≡ Some (Rate (tally [] column.period)) = zero-at spec.columns column there.0 there.1 there.2 sound.in_order rated in
    let stands = run_stands key column period rated (empty_table spec) events replies new [] fresh (orderly-from_legal (empty_table spec) (empty_legal spec)) (record { up_to = record { in_order = tt; none_later = tt }; kept = λ found none. cc }) run in
    let kept = stands.kept found is in
    record {
      up_to = stands.up_to;
      kept = kept;
      shown = ap (option_map (shown new.clock)) kept ∙ ap Some (rate_of-tally (counted_since key column.datum (steps_of (empty_table spec) events replies new run)) column.period new.clock period stands.up_to);
    }
