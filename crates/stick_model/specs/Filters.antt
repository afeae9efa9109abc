-- Which records a filter means.
use Rattle.std.specs.Prelude.{ℕ, nat_eq, nat_lt, nat_le, Bool, true, false, not, ◌&&◌, if◌then◌else◌, List, Option, Some, None, unwrap_or}
use Rattle.stored_data.specs.Acts.{value_at}
use Rattle.stored_data.specs.Fields.{is_field}
use Rattle.stored_data.specs.declared.stored_set.Column.{Column}
use Rattle.stored_data.specs.declared.field.Field.{Field}
use Rattle.stick_model.specs.Key.{Key, same_key}
use Rattle.stick_model.specs.State.{refs, is_tracked}
use Rattle.stick_model.specs.declared.rows.Ticket.{Ticket}
use Rattle.stick_model.specs.declared.rows.Record.{Record}
use Rattle.stick_model.specs.declared.filters.Op.{Op}
use Rattle.stick_model.specs.declared.filters.Op.TheVariants.{Eq, Ne, Le, Ge, Lt, Gt}
use Rattle.stick_model.specs.declared.filters.Filter.{Filter}
use Rattle.stick_model.specs.declared.filters.Filter.TheVariants.{Everything, Nothing, Key as OneKey, Compare}

abbrev pub compares : Op → ℕ → ℕ → Bool
compares Eq a b = nat_eq a b
compares Ne a b = not (nat_eq a b)
compares Le a b = nat_le a b
compares Ge a b = nat_le b a
compares Lt a b = nat_lt a b
compares Gt a b = nat_lt b a

-- whether a record matches, by the values that its row shows
abbrev pub passes : ℕ → List (Ticket × Key) → Filter → Key × Record → Bool
passes clock tickets Everything entry = true
passes clock tickets Nothing entry = false
passes clock tickets (OneKey key) entry = same_key key entry.0
passes clock tickets (Compare field op bound) entry =
    compares op (unwrap_or (value_at entry.1.values field clock) (refs entry.0 tickets)) bound

-- the field that a filter compares and the table doesn't store
abbrev pub not_stored : List Column → Filter → Option Field
not_stored columns Everything = None
not_stored columns Nothing = None
not_stored columns (OneKey key) = None
not_stored columns (Compare field op bound) = if is_field columns field then None else Some field

-- whether it matches, and is tracked or isn't
abbrev pub is_matched : ℕ → List (Ticket × Key) → Filter → Bool → Key × Record → Bool
is_matched clock tickets choice tracked entry =
    if is_tracked entry.0 tickets then tracked && passes clock tickets choice entry else not tracked && passes clock tickets choice entry
