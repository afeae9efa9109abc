-- On what a table is and what it was at its base.
use Rattle.std.proofs.Common.{◌≡◌, ℕ, zero, suc, ◌≤◌, ◌^◌, List, [], ◌∷◌, length, get_or, map, replicate, Option, Some, None, refl, sym, ap, subst, ◌∙◌, arith}
use Rattle.std.specs.Option.{option_map}
use Rattle.std.proofs.Math.ListN.{get_or-map, length-replicate}
use Rattle.std.proofs.lemmas.List.{length-map}
use Rattle.stick_model.specs.Key.{Key, key_cmp}
use Rattle.stick_model.specs.Limits.{IsTableSpec}
use Rattle.stick_model.specs.State.{empty_table}
use Rattle.stick_model.specs.declared.rows.Record.{Record}
use Rattle.stick_model.specs.declared.rows.Ticket.{Ticket}
use Rattle.stick_model.specs.declared.specification.Spec.{Spec}
use Rattle.stick_table.specs.TwoStates.{TwoStates}
use Rattle.stick_pooled.specs.Slots.{entries_of}
use Rattle.stick_pooled.specs.Stock.{Held, Stock, empty, held_at, kept_of, kept_slots, with_base}
use Rattle.stick_pooled.specs.Shown.{keyed, kept_keyed, kept_records, records_of, IsRising}
use Rattle.stick_pooled.specs.Table.{tickets_of, state_of, IsTable, base_of, IsBase}
use Rattle.stick_pooled.specs.Tickets.{Tickets}
use Rattle.stick_pooled.specs.declared.entry.Kept.{Kept}
use Rattle.stick_pooled.specs.declared.entry.Point.TheVariants.{Now}
use Rattle.stick_pooled.proofs.StockLemmas.{none_some, same_some}

pub now_is : {a b : TwoStates} → a ≡ b → a.now ≡ b.now
now_is is = ap (λ (x : TwoStates). x.now) is

pub base_is : {a b : TwoStates} → a ≡ b → a.base ≡ b.base
base_is is = ap (λ (x : TwoStates). x.base) is

-- ---- a base that stays
module _ (spec : Spec) (clock events : ℕ) (tickets : List (Ticket × Key)) (old new : List (Option Kept)) (same : new ≡ old) where
  pub base_stays : base_of spec clock events new tickets ≡ base_of spec clock events old tickets
  base_stays = ap (λ (slots : List (Option Kept)). base_of spec clock events slots tickets) same

  pub keeps_base : IsBase spec clock events old tickets → IsBase spec clock events new tickets
  keeps_base kept = subst (λ (slots : List (Option Kept)). IsBase spec clock events slots tickets) (sym same) kept

-- ---- what it is now becomes its base
kept-keyed : (expire : Option ℕ) (slots : List (Option Held)) → map (option_map (kept_keyed expire)) (map (option_map kept_of) slots) ≡ map (option_map (keyed expire)) slots
kept-keyed expire [] = refl
kept-keyed expire (None ∷ slots) = ap (λ (more : List (Option (Key × Record))). None ∷ more) (kept-keyed expire slots)
kept-keyed expire (Some h ∷ slots) = ap (λ (more : List (Option (Key × Record))). Some (keyed expire h) ∷ more) (kept-keyed expire slots)

-- the records of what the slots have
pub records-now : (expire : Option ℕ) (s : Stock) → kept_records expire (kept_slots Now s) ≡ records_of expire s
records-now expire s = ap (entries_of key_cmp) (kept-keyed expire s.slots)

held-from : (o : Option Held) (k : Kept) → option_map kept_of o ≡ Some k → (h : Held) × (o ≡ Some h) × (kept_of h ≡ k)
held-from None k is = absurd (none_some is)
held-from (Some h) k is = (h, refl, same_some is)

at-slot : (s : Stock) (slot : ℕ) (k : Kept) → get_or (kept_slots Now s) slot None ≡ Some k → (h : Held) × (held_at s slot ≡ Some h) × (kept_of h ≡ k)
at-slot s slot k there = held-from (held_at s slot) k (sym (get_or-map (option_map kept_of) s.slots slot None) ∙ there)

module _ (spec : Spec) (clock events : ℕ) (s : Stock) (book : Tickets) (table : IsTable spec clock events s book) where
  pub based-base : IsBase spec clock events (kept_slots Now s) (tickets_of s book)
  based-base = record {
    bounded = table.bounded;
    distinct = λ i j d e one other same.
        let a = at-slot s i d one in
        let b = at-slot s j e other in
        table.stock.distinct i j a.0 b.0 a.1 b.1 (ap (λ (k : Kept). k.key) a.2 ∙ same ∙ ap (λ (k : Kept). k.key) (sym b.2));
    past = λ slot k there.
        let a = at-slot s slot k there in
        subst (λ (x : Kept). x.moment ≤ clock) a.2 (table.past slot a.0 a.1).1;
    sized = length-map s.slots (option_map kept_of) ∙ table.sized;
  }

  pub based-table : IsTable spec clock events (with_base s) book
  based-table = record {
    bounded = table.bounded;
    stock = record {
      distinct = table.stock.distinct;
      once = table.stock.once;
      queued = λ slot. (
        (λ queued. let f = (table.stock.queued slot).0 queued in record { held = f.held; there = f.there; alone = f.alone }),
        (λ f. (table.stock.queued slot).1 (record { held = f.held; there = f.there; alone = f.alone })),
      );
    };
    rising = rises s.queue table.rising;
    counted = table.counted;
    held = table.held;
    numbered = table.numbered;
    issued = table.issued;
    past = table.past;
    store_newest = table.store_newest;
    book_newest = table.book_newest;
    columns = table.columns;
    sized = table.sized;
    capacity = table.capacity;
  }
    where
      rises : (queue : List ℕ) → IsRising s queue → IsRising (with_base s) queue
      rises [] rising = tt
      rises (slot ∷ later) rising = (rising.0, rises later rising.1)

  pub based-state : base_of spec clock events (with_base s).base (tickets_of s book) ≡ state_of spec clock events s book
  based-state = ap (λ (records : List (Key × Record)). record { spec = spec; clock = clock; events = events; records = records; tickets = tickets_of s book }) (records-now spec.expire s)

  pub few-slots : length s.slots ≤ 2 ^ 30
  few-slots = let most = table.bounded.spec_ok.size.1 in let sized = table.sized in omega (arith, most, sized)

-- ---- the base of a new table
none-at : (size slot : ℕ) (k : Kept) → get_or (replicate {A = Option Kept} size None) slot None ≡ Some k → ⊥
none-at zero slot k there = none_some there
none-at (suc size) zero k there = none_some there
none-at (suc size) (suc slot) k there = none-at size slot k there

no-records : (expire : Option ℕ) (size : ℕ) → ◌≡◌ {A = List (Key × Record)} (kept_records expire (replicate size None)) []
no-records expire zero = refl
no-records expire (suc size) = no-records expire size

module _ (spec : Spec) (limits : IsTableSpec spec) (s : Stock) (is : s ≡ empty spec.size spec.columns) (tickets : List (Ticket × Key)) (none : tickets ≡ []) where
  new-parts : (base : List (Option Kept)) (out : List (Ticket × Key)) → base ≡ replicate spec.size None → out ≡ [] → IsBase spec 0 0 base out
  new-parts base out same told = subst (λ (p : List (Option Kept) × List (Ticket × Key)). IsBase spec 0 0 p.0 p.1) (sym (λ i. (same i, told i))) (record {
    bounded = record { spec_ok = limits; clock_ok = omega arith; life_ok = omega arith; tickets_ok = omega arith };
    distinct = λ i j d e one other same. absurd (none-at spec.size i d one);
    past = λ slot k there. absurd (none-at spec.size slot k there);
    sized = length-replicate spec.size None;
  })

  pub new-base : IsBase spec 0 0 s.base tickets
  new-base = new-parts s.base tickets (ap (λ (x : Stock). x.base) is) none

  pub new-base-state : base_of spec 0 0 s.base tickets ≡ empty_table spec
  new-base-state =
      (λ i. base_of spec 0 0 (is i).base (none i))
      ∙ ap (λ (records : List (Key × Record)). record { spec = spec; clock = 0; events = 0; records = records; tickets = [] }) (no-records spec.expire spec.size)
