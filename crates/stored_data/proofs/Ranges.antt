-- Data stay in range.
use Rattle.std.proofs.Common.{◌≡◌, ℕ, ◌+◌, ◌-◌, ◌*◌, ◌/◌, ◌%◌, ◌≤◌, ◌==◌, List, [], ◌∷◌, refl, ap, arith, true, false, Bool, suc, zero, lit≤}
use Rattle.std.specs.Prelude.{min, Some, map, filter, if◌then◌else◌}
use Rattle.std.proofs.lemmas.Bool.Decides.{nat_tests}
use Rattle.rate_window.specs.Rate.{Tally, most, known, known_before, with_count, tally}
use Rattle.stored_data.specs.Data.{greatest, is_rate}
use Rattle.stored_data.specs.Fields.{Element, elements, same_field}
use Rattle.stored_data.specs.Acts.{change, change_at, index_of, changed, acted, shown, value_at, put_content, put_field, with_value, is_kept, zero_field, zero_of}
use Rattle.stored_data.specs.Laws.{IsInRange, AreInRange, HasTag, StaysInRange, CountsNeverLower}
use Rattle.stored_data.proofs.SameFields.{same_field-is}
use Rattle.stored_data.specs.declared.stored_set.Column.{Column}
use Rattle.stored_data.specs.declared.datum.Datum.{Datum}
use Rattle.stored_data.specs.declared.datum.Datum.TheVariants.{Gpt0, Gpc0, Gpc1, Gpt, Gpc}
use Rattle.stored_data.specs.declared.field.Field.{Field}
use Rattle.stored_data.specs.declared.act.Act.{Act}
use Rattle.stored_data.specs.declared.act.Act.TheVariants.{ClrGpc0, ClrGpc1, SetGpt0, SetGpt}
use Rattle.stored_data.specs.declared.act.Change.{Change}
use Rattle.stored_data.specs.declared.act.Change.TheVariants.{Keep, Add, Set}
use Rattle.stored_data.specs.declared.values.Content.{Content}
use Rattle.stored_data.specs.declared.values.Content.TheVariants.{Number, Rate}
use Rattle.stored_data.specs.declared.values.StoredValue.{StoredValue}

-- the greatest value of a datum has 32 bits or more
greatest-le : (d : Datum) → most ≤ greatest d
greatest-le Gpt0 = lit≤ tt
greatest-le _ = lit≤ tt

-- a window's sum is one of the two that are kept, or 0
known-le : (kept : Tally) (w : ℕ) → kept.current ≤ most → kept.before ≤ most → known kept w ≤ most
known-le kept w current before = either (w == kept.window) (w + 1 == kept.window)
  where
    either : (here next : Bool) → (if here then kept.current else if next then kept.before else 0) ≤ most
    either true next = current
    either false true = before
    either false false = omega arith

known_before-le : (kept : Tally) (w : ℕ) → kept.current ≤ most → kept.before ≤ most → known_before kept w ≤ most
known_before-le kept w current before = either (w == 0)
  where
    either : (first : Bool) → (if first then 0 else known kept (w - 1)) ≤ most
    either true = omega arith
    either false = known-le kept (w - 1) current before

-- what is set is 0 or a tag
IsFit : Datum → Change → Type 0
IsFit datum Keep = Unit {0}
IsFit datum (Add n) = Unit {0}
IsFit datum (Set n) = n ≤ greatest datum

fit : (act : Act) (datum : Datum) → HasTag act → IsFit datum (change act datum)
unfolding IsFit
fit ClrGpc0 Gpc0 tag = lit≤ tt
fit ClrGpc0 Gpc tag = lit≤ tt
fit ClrGpc1 Gpc1 tag = lit≤ tt
fit ClrGpc1 Gpc tag = lit≤ tt
fit (SetGpt0 n) Gpt0 tag = omega (arith, tag)
fit (SetGpt0 n) Gpt tag = omega (arith, tag)
fit (SetGpt index n) Gpt tag = omega (arith, tag)
fit _ Gpt0 tag = tt
fit _ _ tag = tt

fit_at : (act : Act) (field : Field) → HasTag act → IsFit field.datum (change_at act field)
unfolding IsFit
fit_at act field tag = by_index (field.index == index_of act field.datum)
  where
    by_index : (here : Bool) → IsFit field.datum (if here then change act field.datum else Keep)
    by_index true = fit act field.datum tag
    by_index false = tt

in_range-changed : (datum : Datum) (now : ℕ) (change : Change) (content : Content) → IsFit datum change → IsInRange datum content → IsInRange datum (changed now datum change content)
unfolding IsFit
in_range-changed datum now Keep content fits within = within
in_range-changed datum now (Add n) (Number old) fits within = omega arith
in_range-changed datum now (Add n) (Rate kept) fits within = (omega arith, known_before-le kept (now / kept.period) within.0 within.1)
in_range-changed datum now (Set n) (Number old) fits within = fits
in_range-changed datum now (Set n) (Rate kept) fits within = within

in_range-acted : (values : List StoredValue) (now : ℕ) (act : Act) → HasTag act → AreInRange values → AreInRange (acted values now act)
in_range-acted [] now act tag within = tt
in_range-acted (stored ∷ values) now act tag within =
    (in_range-changed stored.field.datum now (change_at act stored.field) stored.content (fit_at act stored.field tag) within.0, in_range-acted values now act tag within.1)

in_range-put_content : (datum : Datum) (value : ℕ) (content : Content) → value ≤ greatest datum → IsInRange datum content → IsInRange datum (put_content value content)
in_range-put_content datum value (Number old) fits within = fits
in_range-put_content datum value (Rate kept) fits within = within

-- one field has one greatest value
same_greatest : (field other : Field) → same_field field other ≡ true → greatest field.datum ≡ greatest other.datum
same_greatest field other tested = ap (λ (f : Field). greatest f.datum) (same_field-is field other tested)

in_range-put_field : (stored : StoredValue) (field : Field) (value : ℕ) (test : Bool) → same_field stored.field field ≡ test → value ≤ greatest field.datum →
    IsInRange stored.field.datum stored.content → IsInRange (put_field field value stored).field.datum (put_field field value stored).content
in_range-put_field stored field value true tested fits within =
    let same = same_greatest stored.field field tested in
    rw tested (in_range-put_content stored.field.datum value stored.content (omega (arith, same, fits)) within)
in_range-put_field stored field value false tested fits within = rw tested within

in_range-with_value : (values : List StoredValue) (field : Field) (value : ℕ) → value ≤ greatest field.datum → AreInRange values → AreInRange (with_value values field value)
in_range-with_value [] field value fits within = tt
in_range-with_value (stored ∷ values) field value fits within =
    (in_range-put_field stored field value (same_field stored.field field) refl fits within.0, in_range-with_value values field value fits within.1)

in_range-zero : (element : Element) (rate : Bool) → IsInRange element.field.datum (if rate then Rate (tally [] element.period) else Number 0)
in_range-zero element true = (lit≤ tt, lit≤ tt)
in_range-zero element false = omega arith

in_range-zero_field : (element : Element) (all : List Element) (test : Bool) → is_kept element ≡ test → AreInRange (map zero_field (filter is_kept all)) → AreInRange (map zero_field (filter is_kept (element ∷ all)))
in_range-zero_field element all true tested later = rw tested (in_range-zero element (is_rate element.field.datum), later)
in_range-zero_field element all false tested later = rw tested later

in_range-zeros : (all : List Element) → AreInRange (map zero_field (filter is_kept all))
in_range-zeros [] = tt
in_range-zeros (element ∷ all) = in_range-zero_field element all (is_kept element) refl (in_range-zeros all)

in_range-zero_of : (columns : List Column) → AreInRange (zero_of columns)
in_range-zero_of columns = in_range-zeros (elements columns)

shown-le : (datum : Datum) (now : ℕ) (content : Content) → IsInRange datum content → shown now content ≤ greatest datum
shown-le datum now (Number n) within = within
shown-le datum now (Rate kept) within = omega (arith, greatest-le datum)

shown_first : (stored : StoredValue) (field : Field) (now value : ℕ) → same_field stored.field field ≡ true → IsInRange stored.field.datum stored.content →
    Some (shown now stored.content) ≡ Some value → value ≤ greatest field.datum
shown_first stored field now value tested within shows =
    let here : shown now stored.content ≡ value = cc in
    omega (arith, here, same_greatest stored.field field tested, shown-le stored.field.datum now stored.content within)

first-le : (stored : StoredValue) (values : List StoredValue) (field : Field) (now value : ℕ) (test : Bool) → same_field stored.field field ≡ test → IsInRange stored.field.datum stored.content →
    (value_at values field now ≡ Some value → value ≤ greatest field.datum) → value_at (stored ∷ values) field now ≡ Some value → value ≤ greatest field.datum
first-le stored values field now value true tested within later shows = shown_first stored field now value tested within (rw tested at shows)
first-le stored values field now value false tested within later shows = later (rw tested at shows)

value_at-le : (values : List StoredValue) (field : Field) (now value : ℕ) → AreInRange values → value_at values field now ≡ Some value → value ≤ greatest field.datum
value_at-le [] field now value within shows = absurd (cc)
value_at-le (stored ∷ values) field now value within shows =
    first-le stored values field now value (same_field stored.field field) refl within.0 (value_at-le values field now value within.1) shows

pub stays_in_range : StaysInRange
stays_in_range = record { new = in_range-zero_of; acts = in_range-acted; puts = in_range-with_value; shows = value_at-le }

-- what a tally with a count more knows of the count's window, and of the one before
known-with_count : (kept : Tally) (now amount : ℕ) → known (with_count kept (record { moment = now; amount = amount })) (now / kept.period) ≡ min most (known kept (now / kept.period) + amount)
known-with_count kept now amount =
    let here : (now / kept.period == now / kept.period) ≡ true = grind (arith, nat_tests) in
    rw here refl

before-with_count : (kept : Tally) (now amount w : ℕ) → now / kept.period ≡ w →
    known_before (with_count kept (record { moment = now; amount = amount })) w ≡ known_before kept (now / kept.period)
before-with_count kept now amount zero here = rw here refl
before-with_count kept now amount (suc w) here =
    let some : (suc w == 0) ≡ false = grind (arith, nat_tests) in
    let differ : (suc w - 1 == now / kept.period) ≡ false = grind (arith, nat_tests) in
    let next : (suc w - 1 + 1 == now / kept.period) ≡ true = grind (arith, nat_tests) in
    rw (some, differ, next) refl

higher : (current current' before before' reach period : ℕ) → current ≤ current' → before' ≡ before →
    min most (current + before * reach / period) ≤ min most (current' + before' * reach / period)
higher current current' before before' reach period more same = rw same (omega arith)

pub counts_never_lower : CountsNeverLower
counts_never_lower datum (Number old) now amount within = omega arith
counts_never_lower datum (Rate kept) now amount within =
    let here = known-with_count kept now amount in
    let bound = known-le kept (now / kept.period) within.0 within.1 in
    higher _ _ _ _ (kept.period - now % kept.period) kept.period (omega (arith, here, bound)) (before-with_count kept now amount (now / kept.period) refl)
