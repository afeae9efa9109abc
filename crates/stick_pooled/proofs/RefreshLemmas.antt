-- An entry that is refreshed comes to the back of the queue, or, where references hold it, out of it.
use Rattle.std.proofs.Common.{◌≡◌, ◌≢◌, ℕ, ◌+◌, refl, sym, ◌∙◌, ap, arith, Bool, true, false, Option, Some, None}
use Rattle.std.specs.Option.{option_map, option_map_or}
use Rattle.std.proofs.lemmas.List.{get_or-set_same, get_or-set_other, length-set}
use Rattle.entry_pool.proofs.SlotLemmas.{get_within}
use Rattle.expiry_order.specs.Queue.{without}
use Rattle.stick_pooled.specs.Stock.{Held, Stock, held_at, with_entry}
use Rattle.stick_pooled.specs.declared.entry.Entry.{Entry}
use Rattle.stick_pooled.proofs.StockLemmas.{same_some, refreshed}
use Rattle.stick_pooled.specs.Tickets.{Tickets}
use Rattle.stick_model.specs.Key.{Key, same_key}
use Rattle.stick_model.specs.State.{refs}
use Rattle.stick_model.specs.declared.specification.Spec.{Spec}
use Rattle.stick_model.proofs.KeyLemmas.{same_key-exact}
use Rattle.stick_pooled.specs.Shown.{stamp_at, moment_at, IsRising}
use Rattle.stick_pooled.specs.Table.{tickets_of, IsTable}
use Rattle.stick_pooled.proofs.RisingLemmas.{rising-fewer, others-left, rising-entered}
use Rattle.stick_pooled.proofs.WriteLemmas.{AreNext, IsWritten, stamps-past, written-table}

-- an entry refreshed by the event that comes next, with so many references
abbrev pub fresh : ℕ → ℕ → ℕ → Entry
fresh clock events count = record { stamp = events + 1; moment = clock; refs = count }

-- ---- an entry that is refreshed
module _ (s : Stock) (slot : ℕ) (h : Held) (there : held_at s slot ≡ Some h) (entry : Entry) where
  pub refresh-written : IsWritten s (with_entry s slot entry) slot (record h { entry = entry })
  refresh-written = record {
    here = get_or-set_same s.slots slot (option_map (λ (held : Held). record held { entry = entry }) (held_at s slot)) None (get_within s.slots slot h there) ∙ ap (option_map (λ (held : Held). record held { entry = entry })) there;
    same = λ j apart. get_or-set_other s.slots slot j (option_map (λ (held : Held). record held { entry = entry }) (held_at s slot)) None apart;
    keyed = λ g is. ap (λ (x : Held). x.key) (same_some (sym there ∙ is));
  }

module _ (spec : Spec) (clock events : ℕ) (s : Stock) (book : Tickets) (table : IsTable spec clock events s book) (slot : ℕ) (h : Held) (there : held_at s slot ≡ Some h) (count : ℕ) where
  pub refresh-rising : IsRising (with_entry s slot (fresh clock events count)) (with_entry s slot (fresh clock events count)).queue
  refresh-rising =
      let new : Stock = with_entry s slot (fresh clock events count) in
      let w = refresh-written s slot h there (fresh clock events count) in
      let stamp : stamp_at new slot ≡ events + 1 = ap (λ (o : Option Held). option_map_or (λ (held : Held). held.entry.stamp) o 0) w.here in
      let moment : moment_at new slot ≡ clock = ap (λ (o : Option Held). option_map_or (λ (held : Held). held.entry.moment) o 0) w.here in
      rising-entered s new slot w.same (λ j. let p = stamps-past s clock events table.past j in (omega (arith, p.0, stamp), omega (arith, p.1, moment)))
      (without s.queue slot) count (others-left slot s.queue) (rising-fewer s slot s.queue table.rising)

  pub refreshed-table : (later : Tickets) → AreNext spec clock (events + 1) (with_entry s slot (fresh clock events count)) later → count ≡ refs h.key (tickets_of (with_entry s slot (fresh clock events count)) later)
      → ((key : Key) → same_key key h.key ≡ false → refs key (tickets_of (with_entry s slot (fresh clock events count)) later) ≡ refs key (tickets_of s book))
      → IsTable spec clock (events + 1) (with_entry s slot (fresh clock events count)) later
  refreshed-table later next own others =
      let new : Stock = with_entry s slot (fresh clock events count) in
      written-table s new slot (record h { entry = fresh clock events count }) (refresh-written s slot h there (fresh clock events count)) spec clock events book later table next refl refl own
      (λ j g apart is. others g.key (other-key j g apart is (same_key g.key h.key) refl))
      (refreshed s slot h (fresh clock events count) table.stock (get_within s.slots slot h there) there)
      refresh-rising (let n = table.store_newest in omega (arith, n)) refl (length-set s.slots slot _)
    where
      other-key : (j : ℕ) (g : Held) → j ≢ slot → held_at s j ≡ Some g → (b : Bool) → same_key g.key h.key ≡ b → same_key g.key h.key ≡ false
      other-key j g apart is false unlike = unlike
      other-key j g apart is true alike = absurd (apart (table.stock.distinct j slot g h is there (same_key-exact g.key h.key alike)))
