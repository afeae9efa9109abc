-- What the records are where one slot is written.
use Rattle.std.proofs.Common.{◌≡◌, ℕ, sym, ◌∙◌, ap, subst, List, map, set, length, Option, Some, None}
use Rattle.std.specs.BTreeMap.{insert_entry}
use Rattle.std.specs.Map.{set_value}
use Rattle.std.specs.Option.{option_map}
use Rattle.std.specs.Cmp.Lexicographic.{nat_list_cmp_total}
use Rattle.std.proofs.lemmas.List.{map-set, length-map}
use Rattle.std.proofs.lemmas.Map.Lookups.{exact_bytes}
use Rattle.std.proofs.Math.ListN.{get_or-map}
use Rattle.stick_pooled.specs.Slots.{entries_of, IsAlone}
use Rattle.stick_pooled.specs.Stock.{Held, Stock, IsStock, IsAbsent, held_at}
use Rattle.stick_pooled.proofs.StockLemmas.{none_some}
use Rattle.stick_pooled.proofs.SlotLemmas.{entries-write, entries-insert}
use Rattle.stick_model.specs.Key.{Key, key_cmp, same_key}
use Rattle.stick_model.specs.declared.rows.Record.{Record}
use Rattle.stick_pooled.specs.Shown.{record_of, keyed, records_of}
use Rattle.stick_pooled.proofs.RecordLemmas.{alone-at, shown-at, held-from}
use Rattle.std.proofs.Common.{◌<◌}

module _ (expire : Option ℕ) (s new : Stock) (kept : IsStock s) (slot : ℕ) (h : Held) (is : new.slots ≡ set s.slots slot (Some h)) where
  -- the slot's entry has another record
  pub rewritten-records : (g : Held) → held_at s slot ≡ Some g → h.key ≡ g.key → records_of expire new ≡ set_value (same_key g.key) (records_of expire s) (record_of expire h)
  rewritten-records g there same =
      ap (λ (slots : List (Option Held)). entries_of key_cmp (map (option_map (keyed expire)) slots)) is
      ∙ ap (entries_of key_cmp) (map-set (option_map (keyed expire)) s.slots slot (Some h))
      ∙ ap (λ (key : Key). entries_of key_cmp (set (map (option_map (keyed expire)) s.slots) slot (Some (key, record_of expire h)))) same
      ∙ entries-write key_cmp nat_list_cmp_total exact_bytes g.key (record_of expire g) (record_of expire h) (map (option_map (keyed expire)) s.slots) slot (alone-at expire s kept slot g there) (shown-at expire s kept slot g there)

  stored-in : IsAlone key_cmp (map (option_map (keyed expire)) s.slots) slot h.key → records_of expire new ≡ insert_entry key_cmp (records_of expire s) h.key (record_of expire h)
  stored-in alone =
      ap (λ (slots : List (Option Held)). entries_of key_cmp (map (option_map (keyed expire)) slots)) is
      ∙ ap (entries_of key_cmp) (map-set (option_map (keyed expire)) s.slots slot (Some h))
      ∙ entries-insert key_cmp nat_list_cmp_total exact_bytes h.key (record_of expire h) (map (option_map (keyed expire)) s.slots) slot alone

  -- the same, said as an insert
  pub replaced-records : (g : Held) → held_at s slot ≡ Some g → h.key ≡ g.key → records_of expire new ≡ insert_entry key_cmp (records_of expire s) h.key (record_of expire h)
  replaced-records g there same = stored-in (subst (IsAlone key_cmp (map (option_map (keyed expire)) s.slots) slot) (sym same) (alone-at expire s kept slot g there))

  -- a slot that had none has an entry, of a key that had none
  alone-absent : slot < length s.slots → held_at s slot ≡ None → IsAbsent s h.key → IsAlone key_cmp (map (option_map (keyed expire)) s.slots) slot h.key
  alone-absent inside free absent = record {
    within = subst (λ n. slot < n) (sym (length-map s.slots (option_map (keyed expire)))) inside;
    only = λ j e at same. let b = held-from expire s kept j e at in absurd (absent j b.0 b.1 (ap (λ (x : Key × Record). x.0) b.2 ∙ sym (exact_bytes h.key e.0 same)));
    no_other = λ e at. absurd (none_some (sym (get_or-map (option_map (keyed expire)) s.slots slot None ∙ ap (option_map (keyed expire)) free) ∙ at));
  }

  pub inserted-records : slot < length s.slots → held_at s slot ≡ None → IsAbsent s h.key → records_of expire new ≡ insert_entry key_cmp (records_of expire s) h.key (record_of expire h)
  inserted-records inside free absent = stored-in (alone-absent inside free absent)
