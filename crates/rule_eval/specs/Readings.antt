-- What an answer tells.
use Rattle.std.specs.Prelude.{ℕ, ◌/◌, ◌-◌, ◌^◌, min, nat_eq, nat_le, nat_lt, Bool, true, false, ◌&&◌, List, Option, Some, None, unwrap_or}
use Rattle.std.specs.List.{find, list_any}
use Rattle.std.specs.Option.{option_and_then, option_map, option_or}
use Rattle.stored_data.specs.Fields.{plain, same_field, stand_in}
use Rattle.stored_data.specs.declared.datum.Datum.{Datum}
use Rattle.stored_data.specs.declared.field.Field.{Field}
use Rattle.stick_model.specs.declared.rows.Cell.{Cell}
use Rattle.stick_model.specs.declared.rows.Row.{Row}
use Rattle.rule_model.specs.declared.criteria.Fetch.{Fetch}
use Rattle.rule_model.specs.declared.criteria.Fetch.TheVariants as fetches
use Rattle.rule_model.specs.declared.criteria.Operator.{Operator}
use Rattle.rule_model.specs.declared.criteria.Operator.TheVariants.{Eq, Ge, Gt, Le, Lt}
use Rattle.rule_model.specs.declared.criteria.Pattern.{Pattern}
use Rattle.rule_model.specs.declared.criteria.Pattern.TheVariants.{Compare, Between}
use Rattle.rule_eval.specs.declared.wants.Want.{Want}
use Rattle.rule_eval.specs.declared.wants.Want.TheVariants.{Get, Track, Look, Count}
use Rattle.rule_eval.specs.declared.wants.Answer.{Answer}
use Rattle.rule_eval.specs.declared.wants.Answer.TheVariants as answers

-- whether an answer is of the kind that is wanted
abbrev pub is_answer : Want → Answer → Bool
is_answer (Get table key) (answers.Row row) = true
is_answer (Get table key) answers.Absent = true
is_answer (Track slot table key) answers.Tracked = true
is_answer (Track slot table key) answers.Untracked = true
is_answer (Look slot) (answers.Row row) = true
is_answer (Count slot act) (answers.Value value) = true
is_answer want answer = false

-- the value of a field in a row, where it is shown
abbrev pub field_in : List Cell → Field → Option ℕ
field_in cells field = option_map (λ (cell : Cell). cell.value) (find (λ (cell : Cell). same_field cell.field field) cells)

-- the value of a datum in a row, or that of the element that stands for it; 0 where neither is shown
abbrev pub value_in : List Cell → Datum → ℕ
value_in cells datum = unwrap_or (option_or (field_in cells (plain datum)) (option_and_then (field_in cells) (stand_in datum))) 0

-- what is read of a row
abbrev pub read : Fetch → Row → ℕ
read (fetches.Datum datum) row = value_in row.cells datum
read (fetches.Kilobytes datum) row = min (2 ^ 32 - 1) (value_in row.cells datum / 1024)
read (fetches.Element field) row = unwrap_or (field_in row.cells field) 0
read fetches.Trackers row = row.refs

-- what is read of an answer: 0 of a key that has no entry
abbrev pub read_of : Fetch → Answer → Option ℕ
read_of fetch (answers.Row row) = Some (read fetch row)
read_of fetch answer = Some 0

-- what an act answered
abbrev pub value_of : Answer → Option ℕ
value_of (answers.Value value) = value
value_of answer = None

abbrev pub compares : Operator → ℕ → ℕ → Bool
compares Eq value bound = nat_eq value bound
compares Ge value bound = nat_le bound value
compares Gt value bound = nat_lt bound value
compares Le value bound = nat_le value bound
compares Lt value bound = nat_lt value bound

-- whether an integer matches
abbrev pub matches : ℕ → Pattern → Bool
matches value (Compare operator bound) = compares operator value bound
matches value (Between low high) = nat_le low value && nat_le value high

-- whether it matches one of several; no value matches none
abbrev pub matches_any : List Pattern → Option ℕ → Bool
matches_any patterns None = false
matches_any patterns (Some value) = list_any (matches value) patterns
