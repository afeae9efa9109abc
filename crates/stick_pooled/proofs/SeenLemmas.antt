-- What is seen of an entry by itself is what a table's records and tickets tell of it.
use Rattle.std.proofs.Common.{◌≡◌, ℕ, suc, refl, sym, ◌∙◌, ap, arith, List, [], ◌∷◌, filter, map, length, get_or, Bool, false, cond, Option, Some, None, count_by}
use Rattle.std.specs.Prelude.{nat_lt, ◌&&◌, ◌||◌, unwrap_or, if◌then◌else◌, not}
use Rattle.std.specs.Map.{values_of}
use Rattle.std.specs.Option.{option_map, option_map_or}
use Rattle.std.specs.Cmp.Lexicographic.{nat_list_cmp_total}
use Rattle.std.proofs.lemmas.List.Sums.{sum_by-cons, length-filter}
use Rattle.stored_data.specs.Acts.{value_at}
use Rattle.stored_data.specs.declared.stored_set.Column.{Column}
use Rattle.stick_pooled.specs.Stock.{Held, Stock, IsStock, held_at}
use Rattle.stick_pooled.proofs.StoreCountLemmas.{count-entries}
use Rattle.stick_model.specs.Key.{Key, key_cmp}
use Rattle.stick_model.specs.Filters.{compares, passes, is_matched}
use Rattle.stick_model.specs.State.{refs, row_of, stays, outlives}
use Rattle.stick_model.specs.declared.rows.Ticket.{Ticket}
use Rattle.stick_model.specs.declared.rows.Record.{Record}
use Rattle.stick_model.specs.declared.filters.Filter.{Filter}
use Rattle.stick_model.specs.declared.filters.Filter.TheVariants.{Everything, Nothing, Key as OneKey, Compare}
use Rattle.stick_table.specs.Replies.{listed_rows}
use Rattle.stick_pooled.specs.Shown.{record_of, keyed, records_of, AreCounted}
use Rattle.stick_pooled.specs.Seen.{is_kept, is_meant, is_meant_as, listed_of, listed_entries}
use Rattle.stick_pooled.proofs.ChoiceLemmas.{entries-chosen, values-chosen}
use Rattle.stick_pooled.proofs.RecordLemmas.{distinct-records}

-- ---- one entry
module _ (tickets : List (Ticket × Key)) (clock : ℕ) (expire : Option ℕ) (h : Held) (counted : h.entry.refs ≡ refs h.key tickets) where
  pub kept-is : is_kept clock expire h ≡ stays clock tickets (keyed expire h)
  kept-is = ap (λ n. nat_lt 0 n || outlives clock (record_of expire h)) counted

  pub meant-is : (choice : Filter) → is_meant clock choice h ≡ passes clock tickets choice (keyed expire h)
  meant-is Everything = refl
  meant-is Nothing = refl
  meant-is (OneKey key) = refl
  meant-is (Compare field op bound) = ap (λ n. compares op (unwrap_or (value_at h.values field clock) n) bound) counted

  pub meant-as-is : (choice : Filter) (tracked : Bool) → is_meant_as clock choice tracked h ≡ is_matched clock tickets choice tracked (keyed expire h)
  meant-as-is choice tracked =
      ap (λ n. if nat_lt 0 n then tracked && is_meant clock choice h else not tracked && is_meant clock choice h) counted
      ∙ ap (λ b. if nat_lt 0 (refs h.key tickets) then tracked && b else not tracked && b) (meant-is choice)

-- ---- counts
-- as many records pass as slots have an entry that does
count-slots : (expire : Option ℕ) (p : Key × Record → Bool) (q : Held → Bool) (slots : List (Option Held)) → ((j : ℕ) (h : Held) → get_or slots j None ≡ Some h → q h ≡ p (keyed expire h))
    → count_by (λ (o : Option (Key × Record)). option_map_or p o false) (map (option_map (keyed expire)) slots) ≡ count_by (λ (o : Option Held). option_map_or q o false) slots
count-slots expire p q [] same = refl
count-slots expire p q (o ∷ slots) same =
    let rest = count-slots expire p q slots (λ j. same (suc j)) in
    let one : ◌≡◌ {A = ℕ} (cond (option_map_or p (option_map (keyed expire) o) false) 1 0) (cond (option_map_or q o false) 1 0) = ap (λ b. cond {A = ℕ} b 1 0) (here o (same 0)) in
    omega (arith, one, rest, sum_by-cons (λ (x : Option (Key × Record)). cond (option_map_or p x false) 1 0) (option_map (keyed expire) o) (map (option_map (keyed expire)) slots), sum_by-cons (λ (x : Option Held). cond (option_map_or q x false) 1 0) o slots)
  where
    here : (x : Option Held) → ((h : Held) → x ≡ Some h → q h ≡ p (keyed expire h)) → option_map_or p (option_map (keyed expire) x) false ≡ option_map_or q x false
    here None is = refl
    here (Some h) is = sym (is h refl)

module _ (s : Stock) (kept : IsStock s) (expire : Option ℕ) (tickets : List (Ticket × Key)) (counted : AreCounted s tickets) (clock : ℕ) where
  -- how many a filter means, of those that references hold or of the others
  pub count-meant : (choice : Filter) (tracked : Bool) → count_by (is_matched clock tickets choice tracked) (records_of expire s) ≡ count_by (λ (o : Option Held). option_map_or (is_meant_as clock choice tracked) o false) s.slots
  count-meant choice tracked =
      count-entries key_cmp nat_list_cmp_total (is_matched clock tickets choice tracked) (map (option_map (keyed expire)) s.slots) (distinct-records expire s kept)
      ∙ count-slots expire (is_matched clock tickets choice tracked) (is_meant_as clock choice tracked) s.slots (λ j h there. meant-as-is tickets clock expire h (counted j h there) choice tracked)

  -- how many are left at a moment
  pub count-kept : length (filter (stays clock tickets) (records_of expire s)) ≡ count_by (λ (o : Option Held). option_map_or (is_kept clock expire) o false) s.slots
  count-kept =
      length-filter (stays clock tickets) (records_of expire s)
      ∙ count-entries key_cmp nat_list_cmp_total (stays clock tickets) (map (option_map (keyed expire)) s.slots) (distinct-records expire s kept)
      ∙ count-slots expire (stays clock tickets) (is_kept clock expire) s.slots (λ j h there. kept-is tickets clock expire h (counted j h there))

  -- ---- rows
  -- the rows of the entries that are listed are those of the records that are
  pub rows-are : (columns : List Column) (choice : Filter) → values_of (listed_entries columns expire clock choice s.slots) ≡ listed_rows columns tickets clock choice (records_of expire s)
  rows-are columns choice =
      ap values_of (entries-chosen key_cmp (λ e. stays clock tickets e && passes clock tickets choice e) (λ (e : Key × Record). row_of columns clock (refs e.0 tickets) e.0 e.1) nat_list_cmp_total (keyed expire) (listed_of columns expire clock choice) s.slots (distinct-records expire s kept) each)
      ∙ values-chosen (stays clock tickets) (passes clock tickets choice) (λ (e : Key × Record). row_of columns clock (refs e.0 tickets) e.0 e.1) (records_of expire s)
    where
      each : (j : ℕ) (h : Held) → held_at s j ≡ Some h → listed_of columns expire clock choice h ≡ cond (stays clock tickets (keyed expire h) && passes clock tickets choice (keyed expire h)) (Some (h.key, row_of columns clock (refs h.key tickets) h.key (record_of expire h))) None
      each j h there =
          ap (λ b. if b && is_meant clock choice h then Some (h.key, row_of columns clock h.entry.refs h.key (record_of expire h)) else None) (kept-is tickets clock expire h (counted j h there))
          ∙ ap (λ b. if stays clock tickets (keyed expire h) && b then Some (h.key, row_of columns clock h.entry.refs h.key (record_of expire h)) else None) (meant-is tickets clock expire h (counted j h there) choice)
          ∙ ap (λ n. if stays clock tickets (keyed expire h) && passes clock tickets choice (keyed expire h) then Some (h.key, row_of columns clock n h.key (record_of expire h)) else None) (counted j h there)
