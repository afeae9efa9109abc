-- What is read as a time is within its bounds.
use Rattle.std.proofs.Common.{◌≡◌, ℕ, ◌<◌, ◌≤◌, ◌^◌, Bool, true, false, cond, Option, Some, None, Result, Ok, Err, List, arith, nat_le, refl, sym, ap, subst, not, ◌-◌}
use Rattle.std.specs.Prelude.{◌&&◌, if◌then◌else◌}
use Rattle.std.specs.Option.{option_map}
use Rattle.std.proofs.lemmas.Bool.Decides.{nat_tests}
use Rattle.rule_model.specs.declared.faults.Fault.{Fault}
use Rattle.rule_model.specs.declared.faults.Fault.TheVariants.{BadNumber, UnknownType}
use Rattle.stored_data.specs.Data.{is_rate, is_array}
use Rattle.stored_data.specs.Stored.{IsPeriod, IsCount}
use Rattle.stored_data.specs.declared.datum.Datum.{Datum}
use Rattle.stored_data.specs.declared.datum.Datum.TheVariants.{Gpt0}
use Rattle.stored_data.specs.declared.stored_set.Column.{Column}
use Rattle.base_lines.specs.Parentheses.{inside}
use Rattle.rule_words.specs.Numbers.{bounded_number, within, time_of, rounded_up, times, digits_of, suffix_of, time_unit}
use Rattle.rule_model.specs.Reading.{◌>>=◌, demand}
use Rattle.rule_words.specs.Table.{column_of, found}
use Rattle.base_lines.specs.Words.{is_some_text}
use Rattle.base_lines.specs.Number.{number_of}

-- a number that is read between two limits is between them
pub within-bounds : (least greatest : ℕ) (fault : Fault) (read : Option ℕ) (n : ℕ) → within least greatest fault read ≡ Ok n → (least ≤ n) × (n ≤ greatest)
within-bounds least greatest fault None n e = cc
within-bounds least greatest fault (Some m) n e = bounds (nat_le least m) (nat_le m greatest) refl refl e
  where
    bounds : (low high : Bool) → nat_le least m ≡ low → nat_le m greatest ≡ high → cond (low && high) (Ok m) (Err fault) ≡ Ok n → (least ≤ n) × (n ≤ greatest)
    bounds true true l h e = let same : m ≡ n = cc in (grind (arith, nat_tests), grind (arith, nat_tests))
    bounds true false l h e = cc
    bounds false true l h e = cc
    bounds false false l h e = cc

-- a time in ms
pub time_of-bounds : (text : List ℕ) (time : ℕ) → time_of text ≡ Ok time → (1 ≤ time) × (time < 2 ^ 31)
unfolding time_of
time_of-bounds text time e =
    let b = within-bounds 1 (2 ^ 31 - 1) BadNumber (option_map rounded_up (times (number_of (digits_of text)) (time_unit (suffix_of text)))) time e in
    (b.0, omega (arith, b.1))

rate_is_no_array : (datum : Datum) → (is_rate datum && is_array datum) ≡ false
rate_is_no_array Gpt0 = refl
rate_is_no_array _ = refl

-- a column that is read is of its datum, and has a period and a count that it may have
pub record IsReadOf (datum : Datum) (column : Column) : Type 0 where
  pub datum_is : column.datum ≡ datum
  pub period : IsPeriod (is_rate datum) column.period
  pub count : IsCount (is_array datum) column.count

pub column_of-IsReadOf : (datum : Datum) (text : List ℕ) (column : Column) → column_of datum text ≡ Ok column → IsReadOf datum column
column_of-IsReadOf datum text column e = by (is_rate datum) (is_array datum) (rate_is_no_array datum) refl refl (inside text) (is_some_text text) e
  where
    Read : Bool → Bool → Option (List ℕ) → Bool → Result Column Fault
    Read rate array inner some =
        if rate then (found inner UnknownType >>= (λ text. time_of text >>= (λ period. Ok (record { datum = datum; period = period; count = 0 }))))
        else (if array then (found inner UnknownType >>= (λ text. bounded_number 1 100 text >>= (λ count. Ok (record { datum = datum; period = 0; count = count }))))
        else (demand (not some) UnknownType >>= (λ _. Ok (record { datum = datum; period = 0; count = 0 }))))

    with_period : (time : Result ℕ Fault) → ((n : ℕ) → time ≡ Ok n → (1 ≤ n) × (n < 2 ^ 31)) → (time >>= (λ period. Ok (record { datum = datum; period = period; count = 0 }))) ≡ Ok column
        → (column.datum ≡ datum) × IsPeriod true column.period × IsCount false column.count
    with_period (Ok n) bounds e = let same : record { datum = datum; period = n; count = 0 } ≡ column = cc in subst (λ (c : Column). (c.datum ≡ datum) × IsPeriod true c.period × IsCount false c.count) same (refl, bounds n refl, refl)
    with_period (Err fault) bounds e = cc

    with_count : (number : Result ℕ Fault) → ((n : ℕ) → number ≡ Ok n → (1 ≤ n) × (n ≤ 100)) → (number >>= (λ count. Ok (record { datum = datum; period = 0; count = count }))) ≡ Ok column
        → (column.datum ≡ datum) × IsPeriod false column.period × IsCount true column.count
    with_count (Ok n) bounds e = let same : record { datum = datum; period = 0; count = n } ≡ column = cc in subst (λ (c : Column). (c.datum ≡ datum) × IsPeriod false c.period × IsCount true c.count) same (refl, refl, bounds n refl)
    with_count (Err fault) bounds e = cc

    by : (rate array : Bool) → (rate && array) ≡ false → is_rate datum ≡ rate → is_array datum ≡ array → (inner : Option (List ℕ)) (some : Bool) → Read rate array inner some ≡ Ok column → IsReadOf datum column
    by true true none r a inner some e = cc
    by true false none r a None some e = cc
    by true false none r a (Some text) some e =
        let is = with_period (time_of text) (time_of-bounds text) e in
        record { datum_is = is.0; period = subst (λ b. IsPeriod b column.period) (sym r) is.1; count = subst (λ b. IsCount b column.count) (sym a) is.2 }
    by false true none r a None some e = cc
    by false true none r a (Some text) some e =
        let is = with_count (bounded_number 1 100 text) (λ n. within-bounds 1 100 BadNumber (number_of text) n) e in
        record { datum_is = is.0; period = subst (λ b. IsPeriod b column.period) (sym r) is.1; count = subst (λ b. IsCount b column.count) (sym a) is.2 }
    by false false none r a inner true e = cc
    by false false none r a inner false e =
        let same : record { datum = datum; period = 0; count = 0 } ≡ column = cc in
        record {
          datum_is = ap (λ (c : Column). c.datum) (sym same);
          period = subst (λ b. IsPeriod b column.period) (sym r) (ap (λ (c : Column). c.period) (sym same));
          count = subst (λ b. IsCount b column.count) (sym a) (ap (λ (c : Column). c.count) (sym same));
        }
