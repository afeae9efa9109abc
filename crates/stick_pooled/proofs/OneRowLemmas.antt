-- The rows of a listing that means one key, or nothing.
use Rattle.std.proofs.Common.{◌≡◌, ℕ, zero, suc, refl, sym, ◌∙◌, ap, arith, List, [], ◌∷◌, map, get_or, Bool, true, false, cond, Option, Some, None}
use Rattle.std.specs.Prelude.{◌&&◌}
use Rattle.std.specs.Option.{option_map}
use Rattle.stored_data.specs.declared.stored_set.Column.{Column}
use Rattle.stick_model.specs.Key.{Key, same_key}
use Rattle.stick_model.specs.State.{row_of}
use Rattle.stick_model.specs.declared.filters.Filter.{Filter}
use Rattle.stick_model.specs.declared.filters.Filter.TheVariants.{Nothing, Key as OneKey}
use Rattle.stick_model.specs.declared.rows.Row.{Row}
use Rattle.stick_model.proofs.KeyLemmas.{same_key-exact, same_key-refl}
use Rattle.stick_pooled.specs.Stock.{Held, Stock, IsStock, held_at}
use Rattle.stick_pooled.specs.Shown.{record_of}
use Rattle.stick_pooled.specs.Seen.{filled, is_kept, is_meant, listed_in, listed_row, IsGone}
use Rattle.stick_pooled.proofs.StockLemmas.{none_some}

and-false : (b : Bool) → b && false ≡ false
and-false true = refl
and-false false = refl

module _ (columns : List Column) (expire : Option ℕ) (clock : ℕ) (choice : Filter) where
  abbrev row_at : Held → Row
  row_at h = row_of columns clock h.entry.refs h.key (record_of expire h)

  -- the row of a slot whose entry passes or doesn't
  row-is : (o : Option Held) (h : Held) (b : Bool) → o ≡ Some h → is_kept clock expire h && is_meant clock choice h ≡ b
      → listed_row columns expire clock choice o ≡ option_map (λ (entry : Key × Row). entry.1) (cond b (Some (h.key, row_at h)) None)
  row-is o h b there passes =
      ap (listed_row columns expire clock choice) there ∙ ap (λ a. option_map (λ (entry : Key × Row). entry.1) (cond a (Some (h.key, row_at h)) None)) passes

  no-row : (o : Option Held) → ((h : Held) → o ≡ Some h → is_kept clock expire h && is_meant clock choice h ≡ false) → listed_row columns expire clock choice o ≡ None
  no-row None fails = refl
  no-row (Some h) fails = row-is (Some h) h false refl (fails h refl)

  none-listed : (slots : List (Option Held)) → ((j : ℕ) (h : Held) → get_or slots j None ≡ Some h → is_kept clock expire h && is_meant clock choice h ≡ false) → listed_in columns expire clock choice slots ≡ []
  none-listed [] fails = refl
  none-listed (o ∷ slots) fails = ap (λ (r : Option Row). filled (r ∷ map (listed_row columns expire clock choice) slots)) (no-row o (fails 0)) ∙ none-listed slots (λ j. fails (suc j))

  -- a slot that isn't meant is not the only one that is
  other : (at j : ℕ) (h : Held) → (j ≡ at → ⊥) → (is_meant clock choice h ≡ true → j ≡ at) → is_kept clock expire h && is_meant clock choice h ≡ false
  other at j h apart only = by_test (is_meant clock choice h) refl
    where
      by_test : (b : Bool) → is_meant clock choice h ≡ b → is_kept clock expire h && is_meant clock choice h ≡ false
      by_test true is = absurd (apart (only is))
      by_test false is = ap (λ b. is_kept clock expire h && b) is ∙ and-false (is_kept clock expire h)

  -- where the filter means the entry of one slot alone
  alone-listed : (slots : List (Option Held)) (at : ℕ) (h : Held) → get_or slots at None ≡ Some h → is_kept clock expire h && is_meant clock choice h ≡ true
      → ((j : ℕ) (d : Held) → get_or slots j None ≡ Some d → is_meant clock choice d ≡ true → j ≡ at) → listed_in columns expire clock choice slots ≡ row_at h ∷ []
  alone-listed [] at h there passes only = absurd (none_some there)
  alone-listed (o ∷ slots) zero h there passes only =
      ap (λ (r : Option Row). filled (r ∷ map (listed_row columns expire clock choice) slots)) (row-is o h true there passes)
      ∙ ap (λ rows. row_at h ∷ rows) (none-listed slots (λ j d is. other 0 (suc j) d (λ same. omega (arith, same)) (only (suc j) d is)))
  alone-listed (o ∷ slots) (suc at) h there passes only =
      ap (λ (r : Option Row). filled (r ∷ map (listed_row columns expire clock choice) slots)) (no-row o (λ d is. other (suc at) 0 d (λ same. omega (arith, same)) (only 0 d is)))
      ∙ alone-listed slots at h there passes (λ j d is meant. let same : suc j ≡ suc at = only (suc j) d is meant in omega (arith, same))

-- ---- the filters
module _ (columns : List Column) (expire : Option ℕ) (clock : ℕ) where
  pub nothing-listed : (slots : List (Option Held)) → listed_in columns expire clock Nothing slots ≡ []
  nothing-listed slots = none-listed columns expire clock Nothing slots (λ j h there. and-false (is_kept clock expire h))

  module _ (s : Stock) (key : Key) where
    -- a key that has no entry that stays has no row
    pub gone-listed : IsGone s expire clock key → listed_in columns expire clock (OneKey key) s.slots ≡ []
    gone-listed gone = none-listed columns expire clock (OneKey key) s.slots fails
      where
        fails : (j : ℕ) (h : Held) → held_at s j ≡ Some h → is_kept clock expire h && same_key key h.key ≡ false
        fails j h there = by_key (same_key key h.key) refl
          where
            by_key : (b : Bool) → same_key key h.key ≡ b → is_kept clock expire h && same_key key h.key ≡ false
            by_key true is = ap (λ b. b && same_key key h.key) (gone j h there (sym (same_key-exact key h.key is)))
            by_key false is = ap (λ b. is_kept clock expire h && b) is ∙ and-false (is_kept clock expire h)

    -- one that has, has that row alone
    pub one-listed : IsStock s → (slot : ℕ) (h : Held) → held_at s slot ≡ Some h → h.key ≡ key → is_kept clock expire h ≡ true
        → listed_in columns expire clock (OneKey key) s.slots ≡ row_of columns clock h.entry.refs h.key (record_of expire h) ∷ []
    one-listed kept slot h there keyed lives =
        alone-listed columns expire clock (OneKey key) s.slots slot h there
        (ap (λ b. b && same_key key h.key) lives ∙ ap (same_key key) keyed ∙ same_key-refl key)
        (λ j d is meant. kept.distinct j slot d h is there (sym (same_key-exact key d.key meant) ∙ sym keyed))
