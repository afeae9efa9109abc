-- What a row shows of the current connections.
use Rattle.std.proofs.Common.{◌≡◌, ◌∙◌, ℕ, Bool, true, false, List, [], ◌∷◌, Some, None, ap, refl, ◌==◌, ◌&&◌, ◌||◌, nat_lt, cond, unwrap_or}
use Rattle.std.specs.Prelude.{is_some}
use Rattle.std.specs.Option.{option_or}
use Rattle.stored_data.specs.Data.{place}
use Rattle.stored_data.specs.Fields.{field_for, is_field, plain, size}
use Rattle.stored_data.specs.Stored.{is_column}
use Rattle.stored_data.specs.declared.datum.Datum.{Datum}
use Rattle.stored_data.specs.declared.datum.Datum.TheVariants.{Gpt0, ConnCur}
use Rattle.stored_data.specs.declared.stored_set.Column.{Column}
use Rattle.rule_eval.specs.Limit.{ShownLaw}
use Rattle.rule_eval.proofs.FetchedLemmas.{datum_lem}

-- a column of the current connections has one field
one_field : (datum : Datum) (count : ℕ) → (place datum == place ConnCur && nat_lt 0 (size (record { datum = datum; period = 0; count = count }))) ≡ (place datum == place ConnCur)
one_field Gpt0 count = refl
one_field _ count = refl

-- the field of the current connections is stored where their column is
conn_cur_field : (columns : List Column) → is_field columns (plain ConnCur) ≡ is_column columns ConnCur
conn_cur_field [] = refl
conn_cur_field (column ∷ columns) = λ i. one_field column.datum column.count i || conn_cur_field columns i

-- their fetches mean that field
pub conn_cur_for : (columns : List Column) → field_for columns ConnCur ≡ cond (is_column columns ConnCur) (Some (plain ConnCur)) None
conn_cur_for columns = by (is_field columns (plain ConnCur)) ∙ ap (λ b. cond b (Some (plain ConnCur)) None) (conn_cur_field columns)
  where
    by : (b : Bool) → option_or (cond b (Some (plain ConnCur)) None) None ≡ cond b (Some (plain ConnCur)) None
    by true = refl
    by false = refl

-- and so a table stores what is read of them where it has their column
pub conn_cur_read : (columns : List Column) → is_some (field_for columns ConnCur) ≡ is_column columns ConnCur
conn_cur_read columns = ap is_some (conn_cur_for columns) ∙ by (is_column columns ConnCur)
  where
    by : (b : Bool) → is_some (cond b (Some (plain ConnCur)) None) ≡ b
    by true = refl
    by false = refl

pub shown_lem : ShownLaw
shown_lem columns clock count key found here none =
    datum_lem columns clock count key found ConnCur (plain ConnCur) (conn_cur_for columns ∙ ap (λ b. cond b (Some (plain ConnCur)) None) here) ∙ ap (λ value. unwrap_or value count) none
