-- What follows from the definitions of the stored data.
use Rattle.std.specs.Prelude.{ℕ, ◌≡◌, ◌≢◌, ◌≤◌, ◌<◌, ◌^◌, ◌==◌, ◌&&◌, ◌++◌, true, List, Some, None, map, not, if◌then◌else◌}
use Rattle.std.specs.List.{AllByRecursion}
use Rattle.rate_window.specs.Rate.{Count, AreUpTo, tally, most}
use Rattle.stored_data.specs.Data.{place, name, greatest, is_rate}
use Rattle.stored_data.specs.Fields.{plain, is_field}
use Rattle.stored_data.specs.Acts.{acted, change, change_at, changed, counts_of, shown, content_of, value_at, with_value, zero_of}
use Rattle.stored_data.specs.declared.stored_set.Column.{Column}
use Rattle.stored_data.specs.declared.datum.Datum.{Datum}
use Rattle.stored_data.specs.declared.datum.Datum.TheVariants.{ConnCur}
use Rattle.stored_data.specs.declared.field.Field.{Field}
use Rattle.stored_data.specs.declared.act.Act.{Act}
use Rattle.stored_data.specs.declared.act.Act.TheVariants.{SetGpt0, SetGpt, IncGpc}
use Rattle.stored_data.specs.declared.act.Change.TheVariants.{Keep, Add}
use Rattle.stored_data.specs.declared.values.Content.{Content}
use Rattle.stored_data.specs.declared.values.Content.TheVariants.{Number, Rate}
use Rattle.stored_data.specs.declared.values.StoredValue.{StoredValue}

-- no two data have one name
abbrev pub NamesDiffer : Type 0
NamesDiffer = (datum other : Datum) → name datum ≡ name other → datum ≡ other

-- a number is at most the greatest of its datum, and the sums of a rate at most the greatest rate
abbrev pub IsInRange : Datum → Content → Type 0
IsInRange datum (Number n) = n ≤ greatest datum
IsInRange datum (Rate kept) = (kept.current ≤ most) × (kept.before ≤ most)

-- each datum is in range
abbrev pub AreInRange : List StoredValue → Type 0
AreInRange = AllByRecursion (λ stored. IsInRange stored.field.datum stored.content)

-- a tag that is set has 32 bits
abbrev pub HasTag : Act → Type 0
HasTag (SetGpt0 n) = n < 2 ^ 32
HasTag (SetGpt index n) = n < 2 ^ 32
HasTag _ = Unit {0}

-- the data of a new key are in range and stay so, and no value is shown above the greatest
pub record StaysInRange : Type 0 where
  pub new : (columns : List Column) → AreInRange (zero_of columns)
  pub acts : (values : List StoredValue) (now : ℕ) (act : Act) → HasTag act → AreInRange values → AreInRange (acted values now act)
  pub puts : (values : List StoredValue) (field : Field) (value : ℕ) → value ≤ greatest field.datum → AreInRange values → AreInRange (with_value values field value)
  pub shows : (values : List StoredValue) (field : Field) (now value : ℕ) → AreInRange values → value_at values field now ≡ Some value → value ≤ greatest field.datum

-- a count lowers no value
abbrev pub CountsNeverLower : Type 0
CountsNeverLower = (datum : Datum) (content : Content) (now amount : ℕ) → IsInRange datum content →
    shown now content ≤ shown now (changed now datum (Add amount) content)

-- a number that is put is read back, and all other fields stay
pub record PutIsRead : Type 0 where
  pub put : (values : List StoredValue) (field : Field) (old value now : ℕ) → content_of values field ≡ Some (Number old) →
      value_at (with_value values field value) field now ≡ Some value
  pub others : (values : List StoredValue) (field other : Field) (value : ℕ) → other ≢ field →
      content_of (with_value values field value) other ≡ content_of values other

-- an act and a put keep the fields that are stored, in their order
pub record KeepsData : Type 0 where
  pub acts : (values : List StoredValue) (now : ℕ) (act : Act) → map (λ stored. stored.field) (acted values now act) ≡ map (λ stored. stored.field) values
  pub puts : (values : List StoredValue) (field : Field) (value : ℕ) → map (λ stored. stored.field) (with_value values field value) ≡ map (λ stored. stored.field) values

-- a new key shows 0 for each field that is stored, but for the current connections
abbrev pub NewShowsZero : Type 0
NewShowsZero = (columns : List Column) (field : Field) (now : ℕ) →
    value_at (zero_of columns) field now ≡ (if is_field columns field && not (place field.datum == place ConnCur) then Some 0 else None)

-- a rate's tally stays that of its counts, with what an act counts in it as the last
abbrev pub RatesTally : Type 0
RatesTally = (counts : List Count) (period now : ℕ) (datum : Datum) (act : Act) → 0 < period → AreUpTo counts now →
    changed now datum (change act datum) (Rate (tally counts period)) ≡ Rate (tally (counts ++ counts_of now (change act datum)) period)

-- of a rate an act changes what it changes of the datum, and the acts of elements count in no rate
pub record RatesCount : Type 0 where
  pub whole : (act : Act) (datum : Datum) → is_rate datum ≡ true → change_at act (plain datum) ≡ change act datum
  pub elements : (index : ℕ) (datum : Datum) → is_rate datum ≡ true → change (IncGpc index) datum ≡ Keep
