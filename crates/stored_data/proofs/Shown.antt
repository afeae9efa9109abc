-- What data show after an act, after a put, and at first.
use Rattle.rate_window.proofs.Fading.{no_rate}
use Rattle.std.proofs.Common.{◌≡◌, ◌≢◌, ℕ, ◌+◌, ◌-◌, ◌/◌, ◌%◌, ◌==◌, List, [], ◌∷◌, refl, sym, ◌∙◌, ap, true, false, Bool}
use Rattle.std.specs.Prelude.{map, filter, not, ◌&&◌, Some, None, if◌then◌else◌}
use Rattle.std.specs.List.{list_any}
use Rattle.rate_window.specs.Rate.{known, known_before, tally}
use Rattle.stored_data.specs.Data.{place, is_rate}
use Rattle.stored_data.specs.Fields.{Element, elements, same_field}
use Rattle.stored_data.specs.Acts.{acted, shown, content_of, value_at, put_content, put_field, with_value, is_kept, zero_field}
use Rattle.stored_data.specs.Laws.{PutIsRead, KeepsData, NewShowsZero}
use Rattle.stored_data.proofs.SameFields.{same_field-is}
use Rattle.stored_data.proofs.Elements.{is_field-elements}
use Rattle.stored_data.specs.declared.field.Field.{Field}
use Rattle.stored_data.specs.declared.datum.Datum.TheVariants.{ConnCur}
use Rattle.stored_data.specs.declared.act.Act.{Act}
use Rattle.stored_data.specs.declared.values.Content.{Content}
use Rattle.stored_data.specs.declared.values.Content.TheVariants.{Number, Rate}
use Rattle.stored_data.specs.declared.values.StoredValue.{StoredValue}

-- an act keeps the fields that are stored
acts_keep : (values : List StoredValue) (now : ℕ) (act : Act) → map (λ stored. stored.field) (acted values now act) ≡ map (λ stored. stored.field) values
acts_keep [] now act = refl
acts_keep (stored ∷ values) now act = ap (λ others. stored.field ∷ others) (acts_keep values now act)

put_field-field : (stored : StoredValue) (field : Field) (value : ℕ) (test : Bool) → same_field stored.field field ≡ test → (put_field field value stored).field ≡ stored.field
put_field-field stored field value true tested = rw tested refl
put_field-field stored field value false tested = rw tested refl

puts_keep : (values : List StoredValue) (field : Field) (value : ℕ) → map (λ stored. stored.field) (with_value values field value) ≡ map (λ stored. stored.field) values
puts_keep [] field value = refl
puts_keep (stored ∷ values) field value =
    let here = put_field-field stored field value (same_field stored.field field) refl in
    let others = puts_keep values field value in
    cc

pub keeps_data : KeepsData
keeps_data = record { acts = acts_keep; puts = puts_keep }

-- a number of the first field is put, and read back
put_first : (content : Content) (old value now : ℕ) → Some content ≡ Some (Number old) → Some (shown now (put_content value content)) ≡ Some value
put_first content old value now stored = let is : content ≡ Number old = cc in rw is refl

put_found : (stored : StoredValue) (values : List StoredValue) (field : Field) (old value now : ℕ) (test : Bool) → same_field stored.field field ≡ test →
    (content_of values field ≡ Some (Number old) → value_at (with_value values field value) field now ≡ Some value) →
    content_of (stored ∷ values) field ≡ Some (Number old) → value_at (with_value (stored ∷ values) field value) field now ≡ Some value
put_found stored values field old value now true tested later is = rw (tested, tested) (put_first stored.content old value now (rw tested at is))
put_found stored values field old value now false tested later is = rw (tested, tested) (later (rw tested at is))

put_is_shown : (values : List StoredValue) (field : Field) (old value now : ℕ) → content_of values field ≡ Some (Number old) → value_at (with_value values field value) field now ≡ Some value
put_is_shown [] field old value now is = absurd (cc)
put_is_shown (stored ∷ values) field old value now is =
    put_found stored values field old value now (same_field stored.field field) refl (put_is_shown values field old value now) is

-- the first field stays for another one
other_found : (stored : StoredValue) (values : List StoredValue) (field other : Field) (value : ℕ) (put test : Bool) → same_field stored.field field ≡ put → same_field stored.field other ≡ test → other ≢ field →
    content_of (with_value values field value) other ≡ content_of values other → content_of (with_value (stored ∷ values) field value) other ≡ content_of (stored ∷ values) other
other_found stored values field other value true true here there differ later =
    absurd (differ (sym (same_field-is stored.field other there) ∙ same_field-is stored.field field here))
other_found stored values field other value true false here there differ later = rw (here, there) later
other_found stored values field other value false true here there differ later = rw (here, there) refl
other_found stored values field other value false false here there differ later = rw (here, there) later

others_stay : (values : List StoredValue) (field other : Field) (value : ℕ) → other ≢ field → content_of (with_value values field value) other ≡ content_of values other
others_stay [] field other value differ = refl
others_stay (stored ∷ values) field other value differ =
    other_found stored values field other value (same_field stored.field field) (same_field stored.field other) refl refl differ (others_stay values field other value differ)

pub put_is_read : PutIsRead
put_is_read = record { put = put_is_shown; others = others_stay }

-- nothing is known of any window of a tally with no counts
none : (here next : Bool) → ◌≡◌ {A = ℕ} (if here then 0 else if next then 0 else 0) 0
none true next = refl
none false true = refl
none false false = refl

known-none : (period w : ℕ) → known (tally [] period) w ≡ 0
known-none period w = none (w == 0) (w + 1 == 0)

known_before-none : (period w : ℕ) (first : Bool) → (if first then 0 else known (tally [] period) (w - 1)) ≡ 0
known_before-none period w true = refl
known_before-none period w false = known-none period (w - 1)

-- a new field shows 0
zero_shown : (element : Element) (now : ℕ) (rate : Bool) → shown now (if rate then Rate (tally [] element.period) else Number 0) ≡ 0
zero_shown element now true =
    no_rate (known (tally [] element.period) (now / element.period)) (known_before (tally [] element.period) (now / element.period)) (element.period - now % element.period) element.period
    (known-none element.period (now / element.period)) (known_before-none element.period (now / element.period) (now / element.period == 0))
zero_shown element now false = refl

-- one field is both times the current connections, or neither time
same_test : (field other : Field) → same_field field other ≡ true → (place field.datum == place ConnCur) ≡ (place other.datum == place ConnCur)
same_test field other tested = ap (λ (f : Field). place f.datum == place ConnCur) (same_field-is field other tested)

abbrev is_among : List Element → Field → Bool
is_among all field = list_any (λ element. same_field element.field field) all

zero_found : (element : Element) (all : List Element) (field : Field) (now : ℕ) (counted here current held : Bool) →
    (place element.field.datum == place ConnCur) ≡ counted → same_field element.field field ≡ here → (place field.datum == place ConnCur) ≡ current → is_among all field ≡ held →
    value_at (map zero_field (filter is_kept all)) field now ≡ (if is_among all field && not (place field.datum == place ConnCur) then Some 0 else None) →
    value_at (map zero_field (filter is_kept (element ∷ all))) field now ≡ (if is_among (element ∷ all) field && not (place field.datum == place ConnCur) then Some 0 else None)
zero_found element all field now true true true true is_counted is_here is_current is_held later = rw (is_counted, is_here, is_current) (rw (is_held, is_current) at later)
zero_found element all field now true true true false is_counted is_here is_current is_held later = rw (is_counted, is_here, is_current) (rw is_held at later)
zero_found element all field now true true false held is_counted is_here is_current is_held later = let same = same_test element.field field is_here in absurd (cc)
zero_found element all field now true false current held is_counted is_here is_current is_held later = rw (is_counted, is_here) later
zero_found element all field now false true true held is_counted is_here is_current is_held later = let same = same_test element.field field is_here in absurd (cc)
zero_found element all field now false true false held is_counted is_here is_current is_held later = rw (is_counted, is_here, is_current) (ap Some (zero_shown element now (is_rate element.field.datum)))
zero_found element all field now false false current held is_counted is_here is_current is_held later = rw (is_counted, is_here) later

zeros_shown : (all : List Element) (field : Field) (now : ℕ) → value_at (map zero_field (filter is_kept all)) field now ≡ (if is_among all field && not (place field.datum == place ConnCur) then Some 0 else None)
zeros_shown [] field now = refl
zeros_shown (element ∷ all) field now =
    zero_found element all field now (place element.field.datum == place ConnCur) (same_field element.field field) (place field.datum == place ConnCur) (is_among all field) refl refl refl refl
    (zeros_shown all field now)

pub new_shows_zero : NewShowsZero
new_shows_zero columns field now =
    zeros_shown (elements columns) field now ∙ ap (λ held. if held && not (place field.datum == place ConnCur) then Some 0 else None) (is_field-elements columns field)
