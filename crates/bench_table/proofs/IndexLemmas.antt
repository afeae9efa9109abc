-- Indexes in which every slot below a number has a key.
use Rattle.std.proofs.Common.{◌≡◌, inl, inr, ℕ, ◌+◌, ◌<◌, ◌≤◌, List, set, replicate, Option, Some, None, IsSome, refl, sym, ap, ◌∙◌, subst, arith, length-set}
use Rattle.std.proofs.lemmas.List.{get_or-set_same, get_or-set_other, get_or-replicate, length-replicate, get_or_past}
use Rattle.std.proofs.lemmas.Bool.{cases_lt}
use Rattle.std.proofs.Permutation.{which}
use Rattle.entry_pool.specs.declared.slot_handle.Handle.{Handle}
use Rattle.key_index.specs.Keys.{Keys, Entry, no_keys, entry, capacity_of, entry_at, with_key, without_slot}

-- the slots below this number have keys, and the others have none
pub record IsFilled (index : Keys) (capacity count : ℕ) : Type 0 where
  pub sized : capacity_of index ≡ capacity
  pub free : (slot : ℕ) → count ≤ slot → entry_at index slot ≡ None
  pub full : (slot : ℕ) → slot < count → IsSome (entry_at index slot)

has_key : (index : Keys) (key : List ℕ) (handle : Handle) (slot : ℕ) → slot ≡ handle.slot → handle.slot < capacity_of index → IsSome (entry_at (with_key index key handle) slot)
has_key index key handle slot same within =
    let is = get_or-set_same index.slots handle.slot (Some (entry key handle.generation)) None within in
    subst IsSome (sym (ap (λ s. entry_at (with_key index key handle) s) same ∙ is)) refl

pub filled_more : (index : Keys) (key : List ℕ) (handle : Handle) (capacity : ℕ) → IsFilled index capacity handle.slot → handle.slot < capacity
    → IsFilled (with_key index key handle) capacity (handle.slot + 1)
filled_more index key handle capacity filled within = record {
  sized = length-set index.slots handle.slot _ ∙ filled.sized;
  free = λ slot past. get_or-set_other index.slots handle.slot slot _ None (λ same. omega (arith, same)) ∙ filled.free slot (omega arith);
  full = λ slot below. elim (which slot handle.slot) [
    | inl same ↦ has_key index key handle slot same (omega (arith, filled.sized))
    | inr other ↦ subst IsSome (sym (get_or-set_other index.slots handle.slot slot _ None other)) (filled.full slot (omega (arith, other)))
  ];
}

-- a key that was put back leaves no slot without one
pub put_back_stays : (index : Keys) (key : List ℕ) (handle : Handle) (slot : ℕ) → handle.slot < capacity_of index → IsSome (entry_at index slot)
    → IsSome (entry_at (with_key (without_slot index handle.slot) key handle) slot)
put_back_stays index key handle slot within some = elim (which slot handle.slot) [
  | inl same ↦ has_key (without_slot index handle.slot) key handle slot same (omega (arith, within, length-set index.slots handle.slot None))
  | inr other ↦ subst IsSome
      (sym (get_or-set_other (set index.slots handle.slot None) handle.slot slot _ None other ∙ get_or-set_other index.slots handle.slot slot None None other)) some
]

pub none_filled : (capacity : ℕ) → IsFilled (no_keys capacity) capacity 0
none_filled capacity = record {
  sized = length-replicate capacity None;
  free = λ slot past. elim (cases_lt slot capacity) [
    | inl lt ↦ get_or-replicate capacity slot None None lt
    | inr le ↦ get_or_past (replicate capacity None) slot None (omega (arith, length-replicate {A = Option Entry} capacity None))
  ];
  full = λ slot below. absurd (omega arith);
}
