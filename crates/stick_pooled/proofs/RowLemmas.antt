-- The row of an entry.
use Rattle.std.proofs.Common.{◌≡◌, ℕ, ◌+◌, ◌-◌, refl, sym, ◌∙◌, ap, List, Option, Some, None, ◌≤◌, arith}
use Rattle.std.specs.Prelude.{unwrap_or}
use Rattle.std.specs.Option.{option_map, option_map_or}
use Rattle.stored_data.specs.declared.stored_set.Column.{Column}
use Rattle.stick_pooled.specs.Stock.{Held, Stock, held_at}
use Rattle.stick_pooled.specs.declared.entry.Entry.{Entry}
use Rattle.stick_pooled.proofs.StockLemmas.{same_some}
use Rattle.stick_pooled.specs.Tickets.{Tickets}
use Rattle.stick_model.specs.Key.{Key}
use Rattle.stick_model.specs.State.{row, row_of}
use Rattle.stick_model.specs.declared.rows.Cell.{Cell}
use Rattle.stick_model.specs.declared.rows.Row.{Row}
use Rattle.stick_model.specs.declared.specification.Spec.{Spec}
use Rattle.stick_pooled.specs.Shown.{record_of, moment_at}
use Rattle.stick_pooled.specs.Table.{state_of, IsTable}
use Rattle.stick_pooled.specs.Seen.{cells_of}

-- a row of an entry's key, references, date and data is that of its record
pub row-is : (columns : List Column) (expire : Option ℕ) (clock slot : ℕ) (s : Stock) (h : Held) (entry : Entry) (key : Key) (left : ℕ) (cells : List Cell) → held_at s slot ≡ Some h
    → option_map (λ (held : Held). held.entry) (held_at s slot) ≡ Some entry → option_map (λ (held : Held). held.key) (held_at s slot) ≡ Some key
    → left ≡ unwrap_or (option_map (λ life. entry.moment + life) expire) 0 - clock → cells ≡ cells_of columns clock entry.refs h.values
    → ◌≡◌ {A = Row} (record { key = key; refs = entry.refs; left = left; cells = cells }) (row_of columns clock h.entry.refs h.key (record_of expire h))
row-is columns expire clock slot s h entry key left cells there entered keyed lives shows =
    (λ i. record { key = same_some (sym keyed ∙ ap (option_map (λ (held : Held). held.key)) there) i; refs = entry.refs; left = lives i; cells = shows i })
    ∙ ap (λ (e : Entry). row_with e) (same_some (sym entered ∙ ap (option_map (λ (held : Held). held.entry)) there))
  where
    row_with : Entry → Row
    row_with e = record { key = h.key; refs = e.refs; left = unwrap_or (option_map (λ life. e.moment + life) expire) 0 - clock; cells = cells_of columns clock e.refs h.values }

-- and that is the row of the table
pub row-shown : (spec : Spec) (clock events : ℕ) (s : Stock) (book : Tickets) → IsTable spec clock events s book → (slot : ℕ) (h : Held) → held_at s slot ≡ Some h
    → row_of spec.columns clock h.entry.refs h.key (record_of spec.expire h) ≡ row (state_of spec clock events s book) h.key (record_of spec.expire h)
row-shown spec clock events s book table slot h there = ap (λ n. row_of spec.columns clock n h.key (record_of spec.expire h)) (table.counted slot h there)

-- what was refreshed was so at a clock of the past
pub past-moment : (spec : Spec) (clock events : ℕ) (s : Stock) (book : Tickets) → IsTable spec clock events s book → (slot : ℕ) → moment_at s slot ≤ clock
past-moment spec clock events s book table slot = go (held_at s slot) refl
  where
    go : (o : Option Held) → held_at s slot ≡ o → option_map_or (λ (held : Held). held.entry.moment) o 0 ≤ clock
    go None there = omega arith
    go (Some h) there = (table.past slot h there).1
