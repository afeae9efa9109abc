-- The states that a table can come to.
use Rattle.std.specs.Prelude.{◌≡◌, ℕ, ◌+◌, ◌≤◌, ◌<◌, nat_eq, true, false, List, [], ◌∷◌, length, map, filter, IsSome, All}
use Rattle.std.specs.List.{IsDistinct}
use Rattle.std.specs.List.Sorted.{IsStrictlySortedBy}
use Rattle.std.specs.Map.{keys_of}
use Rattle.stored_data.specs.Data.{is_rate}
use Rattle.stored_data.specs.Acts.{is_kept}
use Rattle.stored_data.specs.Fields.{Element, elements}
use Rattle.stored_data.specs.Laws.{IsInRange}
use Rattle.stored_data.specs.declared.stored_set.Column.{Column}
use Rattle.stored_data.specs.declared.values.Content.{Content}
use Rattle.stored_data.specs.declared.values.Content.TheVariants.{Number, Rate}
use Rattle.stored_data.specs.declared.values.StoredValue.{StoredValue}
use Rattle.stick_model.specs.Key.{Key, key_cmp}
use Rattle.stick_model.specs.State.{State, record_at}
use Rattle.stick_model.specs.declared.rows.Ticket.{Ticket}
use Rattle.stick_model.specs.declared.rows.Record.{Record}

-- ---- the data of a record

-- of a rate a tally of its column's period is kept, and of any other datum a number
abbrev pub IsKindOf : Element → Content → Type 0
IsKindOf element (Number n) = is_rate element.field.datum ≡ false
IsKindOf element (Rate kept) = (is_rate element.field.datum ≡ true) × (kept.period ≡ element.period)

-- what is kept of an element: of its field, of its kind, and in its datum's range
pub record IsFieldOf (element : Element) (stored : StoredValue) : Type 0 where
  pub field : stored.field ≡ element.field
  pub kind : IsKindOf element stored.content
  pub range : IsInRange stored.field.datum stored.content

-- the data are those of the elements, in their order
abbrev pub AreFieldsOf : List Element → List StoredValue → Type 0
AreFieldsOf [] [] = Unit {0}
AreFieldsOf (element ∷ elements) (stored ∷ values) = IsFieldOf element stored × AreFieldsOf elements values
AreFieldsOf [] (stored ∷ values) = ⊥
AreFieldsOf (element ∷ elements) [] = ⊥

-- a record's data are the table's columns, each with its elements; nothing is kept of the current connections
abbrev pub AreDataOf : List Column → List StoredValue → Type 0
AreDataOf columns values = AreFieldsOf (filter is_kept (elements columns)) values

-- ---- states

abbrev pub number_in : Ticket × Key → ℕ
number_in held = held.0.number

abbrev pub slot_in : Ticket × Key → ℕ
slot_in held = held.0.slot

abbrev pub stamp_in : Key × Record → ℕ
stamp_in entry = entry.1.stamp

pub record IsLegal (state : State) : Type 0 where
  pub keys_rise : IsStrictlySortedBy key_cmp (keys_of state.records)
  pub within_size : length state.records ≤ state.spec.size
  pub keys_held : All (λ (held : Ticket × Key). IsSome (record_at held.1 state.records)) state.tickets
  pub within_life : state.events + length state.tickets ≤ state.spec.life
  pub stamps_differ : IsDistinct nat_eq (map stamp_in state.records)
  pub stamps_past : All (λ entry. stamp_in entry ≤ state.events) state.records
  pub numbers_differ : IsDistinct nat_eq (map number_in state.tickets)
  pub numbers_past : All (λ held. number_in held ≤ state.events) state.tickets
  pub slots_differ : IsDistinct nat_eq (map slot_in state.tickets)
  pub slots_below : All (λ held. slot_in held < state.spec.max_refs) state.tickets
  pub values : All (λ (entry : Key × Record). AreDataOf state.spec.columns entry.1.values) state.records
