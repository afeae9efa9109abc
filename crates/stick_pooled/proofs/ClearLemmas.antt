-- What a table keeps where entries go that no reference holds.
use Rattle.std.proofs.Common.{◌≡◌, ◌≢◌, ℕ, ◌+◌, ◌-◌, ◌<◌, ◌⊎◌, inl, inr, refl, sym, ◌∙◌, ap, subst, arith, List, filter, map, length, Bool, true, false, not, Option, Some, None, count_by}
use Rattle.std.specs.Prelude.{nat_lt, ◌&&◌, if◌then◌else◌}
use Rattle.std.specs.Option.{option_map, option_map_or}
use Rattle.std.specs.Cmp.Lexicographic.{nat_list_cmp_total}
use Rattle.std.proofs.lemmas.Bool.{false≢true, cases_eq}
use Rattle.std.proofs.lemmas.Bool.Decides.{nat_tests}
use Rattle.std.proofs.lemmas.List.{get_or-set_same, get_or-set_other}
use Rattle.std.proofs.lemmas.List.Sums.{length-filter}
use Rattle.std.proofs.lemmas.List.Filters.{length-filter_both}
use Rattle.std.proofs.lemmas.Map.Lookups.{exact_bytes}
use Rattle.entry_pool.proofs.SlotLemmas.{get_within}
use Rattle.stick_pooled.specs.Stock.{Held, Stock, IsStock, IsFree, held_at, held_count, without_slot}
use Rattle.stick_pooled.proofs.StockLemmas.{none_some, same_some}
use Rattle.stick_pooled.proofs.SlotLemmas.{sorted-entries, filter-all}
use Rattle.stick_pooled.proofs.StoreCountLemmas.{all-entries, filter-one}
use Rattle.stick_pooled.specs.Tickets.{Tickets}
use Rattle.stick_model.specs.Filters.{is_matched}
use Rattle.stick_model.specs.Key.{Key, key_cmp}
use Rattle.stick_model.specs.Step.{cleared}
use Rattle.stick_model.specs.declared.filters.Filter.{Filter}
use Rattle.stick_model.specs.declared.replies.Reply.TheVariants.{Cleared}
use Rattle.stick_model.specs.declared.rows.Ticket.{Ticket}
use Rattle.stick_model.specs.declared.rows.Record.{Record}
use Rattle.stick_model.specs.declared.specification.Spec.{Spec}
use Rattle.stick_pooled.specs.Shown.{record_of, keyed, records_of, AreCounted, IsRising, IsLeft}
use Rattle.stick_pooled.specs.Table.{tickets_of, state_of, IsTable}
use Rattle.stick_pooled.specs.Seen.{is_meant, is_meant_as}
use Rattle.stick_pooled.proofs.RecordLemmas.{held-from, lookup-at, records-without}
use Rattle.stick_pooled.proofs.TableLemmas.{left-table, left-tickets, records-length}
use Rattle.stick_pooled.proofs.SeenLemmas.{meant-as-is, count-meant}

-- ---- one entry goes
no-refs : (n : ℕ) → nat_lt 0 n ≡ false → n ≡ 0
no-refs n none = grind (arith, nat_tests)

free-from : (n : ℕ) (b : Bool) → (if nat_lt 0 n then false && b else not false && b) ≡ true → n ≡ 0
free-from n b = go (nat_lt 0 n) refl
  where
    go : (t : Bool) → nat_lt 0 n ≡ t → (if t then false && b else not false && b) ≡ true → n ≡ 0
    go true some is = absurd (false≢true is)
    go false none is = no-refs n none

-- what the filter means of those that no reference holds is in the queue
pub meant-free : (s : Stock) (clock : ℕ) (choice : Filter) (slot : ℕ) → option_map_or (is_meant_as clock choice false) (held_at s slot) false ≡ true → IsFree s slot
meant-free s clock choice slot meant = go (held_at s slot) refl meant
  where
    go : (o : Option Held) → held_at s slot ≡ o → option_map_or (is_meant_as clock choice false) o false ≡ true → IsFree s slot
    go None there is = absurd (false≢true is)
    go (Some h) there is = record { held = h; there = there; alone = free-from h.entry.refs (is_meant clock choice h) is }

pub meant-at : (s : Stock) (clock : ℕ) (choice : Filter) (slot : ℕ) (h : Held) → held_at s slot ≡ Some h → (b : Bool) → option_map_or (is_meant_as clock choice false) (held_at s slot) false ≡ b → is_meant_as clock choice false h ≡ b
meant-at s clock choice slot h there b is = sym (ap (λ o. option_map_or (is_meant_as clock choice false) o false) there) ∙ is

module _ (s : Stock) (slot : ℕ) where
  gone-at : (h : Held) → held_at s slot ≡ Some h → held_at (without_slot s slot) slot ≡ None
  gone-at h there = get_or-set_same s.slots slot None None (get_within s.slots slot h there)

  -- an entry that is there without the slot's was there
  pub was-there : (f : IsFree s slot) (j : ℕ) (h : Held) → held_at (without_slot s slot) j ≡ Some h → (j ≢ slot) × (held_at s j ≡ Some h)
  was-there f j h there = go (cases_eq j slot)
    where
      go : (j ≡ slot) ⊎ (j ≡ slot → ⊥) → (j ≢ slot) × (held_at s j ≡ Some h)
      go (inl same) = absurd (none_some (sym (ap (λ i. held_at (without_slot s slot) i) same ∙ gone-at f.held f.there) ∙ there))
      go (inr apart) = (apart, sym (get_or-set_other s.slots slot j None None apart) ∙ there)

  -- entries that were left are left, but for one that no reference holds
  pub left-free : (old : Stock) → IsLeft old s → IsFree s slot → IsLeft old (without_slot s slot)
  left-free old left f = record {
    fewer = λ j h there. left.fewer j h (was-there f j h there).1;
    tracked = λ j h there some. get_or-set_other s.slots slot j None None (λ same.
        let one : h ≡ f.held = same_some (sym (left.tracked j h there some) ∙ ap (held_at s) same ∙ f.there) in
        some (ap (λ (x : Held). x.entry.refs) one ∙ f.alone)) ∙ left.tracked j h there some;
    base = left.base;
  }

-- the filter means nothing in the slots so far
pub meant-gone : (s : Stock) (clock : ℕ) (choice : Filter) (slot : ℕ) (f : IsFree s slot) → ((j : ℕ) (h : Held) → j < slot → held_at s j ≡ Some h → is_meant_as clock choice false h ≡ false)
    → (j : ℕ) (h : Held) → j < slot + 1 → held_at (without_slot s slot) j ≡ Some h → is_meant_as clock choice false h ≡ false
meant-gone s clock choice slot f before j h inside there =
    let was = was-there s slot f j h there in
    let apart : j ≢ slot = was.0 in
    before j h (omega arith) was.1

pub meant-passed : (s : Stock) (clock : ℕ) (choice : Filter) (slot : ℕ) → option_map_or (is_meant_as clock choice false) (held_at s slot) false ≡ false → ((j : ℕ) (h : Held) → j < slot → held_at s j ≡ Some h → is_meant_as clock choice false h ≡ false)
    → (j : ℕ) (h : Held) → j < slot + 1 → held_at s j ≡ Some h → is_meant_as clock choice false h ≡ false
meant-passed s clock choice slot fails before j h inside there = go (cases_eq j slot)
  where
    go : (j ≡ slot) ⊎ (j ≡ slot → ⊥) → is_meant_as clock choice false h ≡ false
    go (inl same) = meant-at s clock choice slot h (ap (held_at s) (sym same) ∙ there) false fails
    go (inr apart) = before j h (omega arith) there

module _ (expire : Option ℕ) (s : Stock) (kept : IsStock s) (tickets : List (Ticket × Key)) (counted : AreCounted s tickets) (clock : ℕ) (choice : Filter) where
  -- without one that the filter means it leaves the same
  pub meant-goes : (slot : ℕ) (h : Held) → held_at s slot ≡ Some h → is_meant_as clock choice false h ≡ true
      → filter (λ entry. not (is_matched clock tickets choice false entry)) (records_of expire (without_slot s slot)) ≡ filter (λ entry. not (is_matched clock tickets choice false entry)) (records_of expire s)
  meant-goes slot h there meant =
      ap (filter (λ entry. not (is_matched clock tickets choice false entry))) (records-without expire s kept slot h there)
      ∙ filter-one key_cmp nat_list_cmp_total h.key (record_of expire h) (λ entry. not (is_matched clock tickets choice false entry)) (records_of expire s) (sorted-entries key_cmp nat_list_cmp_total (map (option_map (keyed expire)) s.slots)) (lookup-at expire s kept slot h there)
      (λ key same. ap (λ k. not (is_matched clock tickets choice false (k, record_of expire h))) (sym (exact_bytes h.key key same)) ∙ ap not (sym (meant-as-is tickets clock expire h (counted slot h there) choice false) ∙ meant))

  -- where it means none it leaves all
  pub none-meant : ((j : ℕ) (h : Held) → j < length s.slots → held_at s j ≡ Some h → is_meant_as clock choice false h ≡ false)
      → filter (λ entry. not (is_matched clock tickets choice false entry)) (records_of expire s) ≡ records_of expire s
  none-meant none =
      filter-all (λ entry. not (is_matched clock tickets choice false entry)) (records_of expire s) (all-entries key_cmp exact_bytes (λ (e : Key × Record). not (is_matched clock tickets choice false e) ≡ true) (map (option_map (keyed expire)) s.slots) (λ j e at.
      let b = held-from expire s kept j e at in
      subst (λ (x : Key × Record). not (is_matched clock tickets choice false x) ≡ true) b.2
      (ap not (sym (meant-as-is tickets clock expire b.0 (counted j b.0 b.1) choice false) ∙ none j b.0 (get_within s.slots j b.0 b.1) b.1))))

-- ---- the table whose entries went
module _ (spec : Spec) (clock events : ℕ) (old new : Stock) (book : Tickets) (table : IsTable spec clock events old book) (left : IsLeft old new) where
  same-tickets-left : tickets_of new book ≡ tickets_of old book
  same-tickets-left = left-tickets spec clock events clock (omega arith) old new book table left

  pub cleared-table : IsStock new → IsRising new new.queue → new.columns ≡ old.columns → new.newest ≡ old.newest → length new.slots ≡ length old.slots → IsTable spec clock events new book
  cleared-table = left-table spec clock events clock (omega arith) old new book table left table.bounded.clock_ok

  -- what a clear of all that a filter means comes to
  pub cleared-is : (choice : Filter) (removed kept : ℕ) → records_of spec.expire new ≡ filter (λ entry. not (is_matched clock (tickets_of old book) choice false entry)) (records_of spec.expire old)
      → IsStock new → removed ≡ held_count old - held_count new → kept ≡ count_by (λ (o : Option Held). option_map_or (is_meant_as clock choice true) o false) old.slots
      → cleared (state_of spec clock events old book) choice ≡ (Cleared removed kept, state_of spec clock events new book)
  cleared-is choice removed kept records stock few many =
      (λ i. (Cleared (gone i) (stayed i), record { spec = spec; clock = clock; events = events; records = sym records i; tickets = sym same-tickets-left i }))
    where
      matched : Key × Record → Bool
      matched = is_matched clock (tickets_of old book) choice false

      stayed : count_by (is_matched clock (tickets_of old book) choice true) (records_of spec.expire old) ≡ kept
      stayed = count-meant old table.stock spec.expire (tickets_of old book) table.counted clock choice true ∙ sym many

      gone : count_by matched (records_of spec.expire old) ≡ removed
      gone =
          let all = length-filter_both matched (λ e. not (matched e)) (λ e. refl) (records_of spec.expire old) in
          let counts = length-filter matched (records_of spec.expire old) in
          let before = records-length spec.expire old table.stock in
          let after = records-length spec.expire new stock in
          let rest : length (records_of spec.expire new) ≡ length (filter (λ e. not (matched e)) (records_of spec.expire old)) = ap length records in
          omega (arith, all, counts, before, after, rest, few)
