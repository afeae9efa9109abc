-- Rows that are gathered slot by slot.
use Rattle.std.proofs.Common.{◌≡◌, ℕ, ◌+◌, ◌<◌, refl, sym, ◌∙◌, ap, append_assoc, Bool, true, false, cond, List, [], ◌∷◌, ◌++◌, length, map, drop, get_or, Option, Some, None}
use Rattle.std.proofs.Common.{add-one, drop-cons}
use Rattle.stored_data.specs.declared.stored_set.Column.{Column}
use Rattle.std.specs.Prelude.{◌&&◌, IfOk}
use Rattle.std.specs.declared.result.Result.{Result}
use Rattle.std.specs.declared.result.Result.TheVariants.{Ok, Err}
use Rattle.std.specs.Option.{option_map, option_map_or}
use Rattle.std.proofs.lemmas.Bool.{false≢true}
use Rattle.stick_model.specs.Gathered.{Gathered, with_row}
use Rattle.stick_model.specs.Key.{Key}
use Rattle.stick_model.specs.State.{row_of}
use Rattle.stick_pooled.specs.Shown.{record_of}
use Rattle.stick_model.specs.declared.filters.Filter.{Filter}
use Rattle.stick_model.specs.declared.rows.Row.{Row}
use Rattle.stick_pooled.specs.Stock.{Held}
use Rattle.stick_pooled.specs.Seen.{filled, is_kept, is_meant, listed_in, listed_row, with_listed}

-- the columns and the moment stay
pub listed-keeps : (old new : Gathered) (o : Option Row) → new ≡ with_listed old o → (new.columns ≡ old.columns) × (new.clock ≡ old.clock)
listed-keeps old new None adds = (ap (λ (g : Gathered). g.columns) adds, ap (λ (g : Gathered). g.clock) adds)
listed-keeps old new (Some row) adds = (ap (λ (g : Gathered). g.columns) adds, ap (λ (g : Gathered). g.clock) adds)

filled-more : (old new : Gathered) (o : Option Row) (later : List (Option Row)) → new ≡ with_listed old o → new.rows ++ filled later ≡ old.rows ++ filled (o ∷ later)
filled-more old new None later adds = ap (λ (g : Gathered). g.rows ++ filled later) adds
filled-more old new (Some row) later adds = ap (λ (g : Gathered). g.rows ++ filled later) adds ∙ append_assoc old.rows (row ∷ []) (filled later)

-- the rows so far with one slot more, and those of the slots to come
pub gather-more : (columns : List Column) (expire : Option ℕ) (clock : ℕ) (choice : Filter) (slots : List (Option Held)) (slot : ℕ) (old new : Gathered) (all : List Row) → slot < length slots
    → new ≡ with_listed old (listed_row columns expire clock choice (get_or slots slot None)) → old.rows ++ listed_in columns expire clock choice (drop slot slots) ≡ all
    → new.rows ++ listed_in columns expire clock choice (drop (slot + 1) slots) ≡ all
gather-more columns expire clock choice slots slot old new all within adds so_far =
    let next : drop slot slots ≡ get_or slots slot None ∷ drop (slot + 1) slots = rw add-one (drop-cons slots slot None within) in
    filled-more old new (listed_row columns expire clock choice (get_or slots slot None)) (map (listed_row columns expire clock choice) (drop (slot + 1) slots)) adds
    ∙ ap (λ later. old.rows ++ listed_in columns expire clock choice later) (sym next) ∙ so_far

-- what was made shows these rows
pub if_made : {E : Type 0} (r : Result Gathered E) (g : Gathered) (rows : List Row) → IfOk r (λ made. made ≡ g) → g.rows ≡ rows → IfOk r (λ made. made.rows ≡ rows)
if_made (Ok made) g rows is shows = ap (λ (all : Gathered). all.rows) is ∙ shows
if_made (Err e) g rows is shows = tt

-- ---- one slot
module _ (columns : List Column) (expire : Option ℕ) (clock : ℕ) (choice : Filter) (g : Gathered) where
  abbrev chosen : Held → Bool
  chosen h = is_kept clock expire h && is_meant clock choice h

  pub listed-none : (o : Option Held) → option_map_or chosen o false ≡ false → g ≡ with_listed g (listed_row columns expire clock choice o)
  listed-none None is = refl
  listed-none (Some h) is = go (chosen h) is
    where
      go : (b : Bool) → b ≡ false → g ≡ with_listed g (option_map (λ (entry : Key × Row). entry.1) (cond b (Some (h.key, row_of columns clock h.entry.refs h.key (record_of expire h))) None))
      go true is = absurd (false≢true (sym is))
      go false is = refl

  pub listed-some : (new : Gathered) (o : Option Held) → option_map_or chosen o false ≡ true → ((held : Held) → o ≡ Some held → new ≡ with_row g (row_of columns clock held.entry.refs held.key (record_of expire held)))
      → new ≡ with_listed g (listed_row columns expire clock choice o)
  listed-some new None is makes = absurd (false≢true is)
  listed-some new (Some h) is makes = go (chosen h) is
    where
      go : (b : Bool) → b ≡ true → new ≡ with_listed g (option_map (λ (entry : Key × Row). entry.1) (cond b (Some (h.key, row_of columns clock h.entry.refs h.key (record_of expire h))) None))
      go true is = makes h refl
      go false is = absurd (false≢true is)
