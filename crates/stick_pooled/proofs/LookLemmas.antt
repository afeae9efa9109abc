-- What a look is answered.
use Rattle.std.proofs.Common.{subst, ◌≡◌, ℕ, refl, sym, ◌∙◌, ap, List, [], ◌∷◌, filter, map, Bool, true, false, cond, Option, Some, None}
use Rattle.std.specs.Prelude.{◌||◌}
use Rattle.std.specs.BTreeMap.{is_at}
use Rattle.std.specs.Cmp.{IsTotalOrder}
use Rattle.std.specs.Cmp.Lexicographic.{nat_list_cmp_total}
use Rattle.std.specs.List.{AllByRecursion}
use Rattle.std.specs.List.Sorted.{IsStrictlySortedBy}
use Rattle.std.specs.Map.{keys_of, lookup}
use Rattle.std.specs.Option.{option_map, option_map_or}
use Rattle.std.specs.Ordering.{is_eq}
use Rattle.std.specs.declared.cmp.Ordering.{Ordering}
use Rattle.std.specs.declared.cmp.Ordering.TheVariants.{Less, Equal, Greater}
use Rattle.std.proofs.lemmas.Map.Lookups.{exact_bytes}
use Rattle.stick_pooled.specs.Stock.{Held, Stock, held_at, key_in}
use Rattle.stick_pooled.proofs.StoreCountLemmas.{all-entries}
use Rattle.stick_pooled.proofs.StockLemmas.{none_some, same_some}
use Rattle.stick_pooled.proofs.SlotLemmas.{sorted-entries, missing, level}
use Rattle.stick_pooled.specs.Tickets.{Tickets, entry_of}
use Rattle.stick_table.specs.Replies.{shown_reply, looked_reply}
use Rattle.stick_model.specs.Key.{Key, key_cmp}
use Rattle.stick_model.specs.State.{refs, record_at, row_of, same_ticket, outlives, stays}
use Rattle.stick_model.specs.declared.replies.Reply.{Reply}
use Rattle.stick_model.specs.declared.replies.Reply.TheVariants.{Absent, Row as ARow}
use Rattle.stick_model.specs.declared.rows.Ticket.{Ticket}
use Rattle.stick_model.specs.declared.rows.Record.{Record}
use Rattle.stick_model.specs.declared.rows.Row.{Row}
use Rattle.stick_model.specs.declared.specification.Spec.{Spec}
use Rattle.stick_model.proofs.EntryLemmas.{all-filter}
use Rattle.stick_model.proofs.TestLemmas.{lt-to}
use Rattle.stick_pooled.specs.Seen.{is_kept, IsGone}
use Rattle.stick_pooled.specs.Shown.{record_of, keyed, records_of}
use Rattle.stick_pooled.specs.Table.{tickets_of, state_of, IsTable}
use Rattle.stick_pooled.proofs.CountLemmas.{lookup-keys}
use Rattle.stick_pooled.proofs.RecordLemmas.{lookup-at, held-from}
use Rattle.stick_pooled.proofs.ReleaseLemmas.{release-some}
use Rattle.stick_pooled.proofs.SeenLemmas.{kept-is}

-- ---- a look into what a filter leaves
-- where all of a key fail, a filter leaves none
none-left : {K X : Type 0} (R : K → K → Ordering) (p : K × X → Bool) (k : K) (es : List (K × X)) → AllByRecursion (λ e. R k e.0 ≡ Equal → p e ≡ false) es → lookup (is_at (R k)) (filter p es) ≡ None
none-left R p k [] h = refl
none-left R p k (e ∷ es) h = go (none-left R p k es h.1) (R k e.0) refl (p e) refl
  where
    miss : lookup (is_at (R k)) (filter p es) ≡ None → is_eq (R k e.0) ≡ false → (b : Bool) → lookup (is_at (R k)) (cond b (e ∷ filter p es) (filter p es)) ≡ None
    miss rest other true = ap (λ t. cond t (Some e.1) (lookup (is_at (R k)) (filter p es))) other ∙ rest
    miss rest other false = rest

    go : lookup (is_at (R k)) (filter p es) ≡ None → (o : Ordering) → R k e.0 ≡ o → (b : Bool) → p e ≡ b → lookup (is_at (R k)) (filter p (e ∷ es)) ≡ None
    go rest Less is b passes = miss rest (ap is_eq is) (p e)
    go rest Greater is b passes = miss rest (ap is_eq is) (p e)
    go rest Equal is b passes = ap (λ q. lookup (is_at (R k)) (cond q (e ∷ filter p es) (filter p es))) (h.0 is) ∙ rest

module _ {K X : Type 0} (R : K → K → Ordering) (p : K × X → Bool) where
  one-left : IsTotalOrder R → (k : K) (x : X) (b : Bool) (es : List (K × X)) → IsStrictlySortedBy R (keys_of es) → lookup (is_at (R k)) es ≡ Some x → ((key : K) → R k key ≡ Equal → p (key, x) ≡ b) → lookup (is_at (R k)) (filter p es) ≡ cond b (Some x) None
  unfolding IsStrictlySortedBy
  one-left total k x b [] sorted there is = absurd (none_some there)
  one-left total k x b (e ∷ es) sorted there is = go (one-left total k x b es sorted.1) (R k e.0) refl there
    where
      past : (lookup (is_at (R k)) es ≡ Some x → ((key : K) → R k key ≡ Equal → p (key, x) ≡ b) → lookup (is_at (R k)) (filter p es) ≡ cond b (Some x) None) → is_eq (R k e.0) ≡ false → lookup (is_at (R k)) es ≡ Some x
          → (q : Bool) → lookup (is_at (R k)) (cond q (e ∷ filter p es) (filter p es)) ≡ cond b (Some x) None
      past rest miss there false = rest there is
      past rest miss there true = ap (λ t. cond t (Some e.1) (lookup (is_at (R k)) (filter p es))) miss ∙ rest there is

      here : R k e.0 ≡ Equal → e.1 ≡ x → (q : Bool) → q ≡ b → lookup (is_at (R k)) (cond q (e ∷ filter p es) (filter p es)) ≡ cond q (Some x) None
      here same one true _ = ap (λ o. cond (is_eq o) (Some e.1) (lookup (is_at (R k)) (filter p es))) same ∙ ap Some one
      here same one false _ = missing R total k (filter p es) (all-filter (λ (d : K × X). d.0) (λ y. R k y ≡ Less) p es (level R total k e.0 same (keys_of es) sorted.0))

      go : (lookup (is_at (R k)) es ≡ Some x → ((key : K) → R k key ≡ Equal → p (key, x) ≡ b) → lookup (is_at (R k)) (filter p es) ≡ cond b (Some x) None)
          → (o : Ordering) → R k e.0 ≡ o → cond (is_eq o) (Some e.1) (lookup (is_at (R k)) es) ≡ Some x → lookup (is_at (R k)) (filter p (e ∷ es)) ≡ cond b (Some x) None
      go rest Less order found = past rest (ap is_eq order) found (p e)
      go rest Greater order found = past rest (ap is_eq order) found (p e)
      go rest Equal order found =
          let one : e.1 ≡ x = same_some found in
          let passes : p e ≡ b = ap (λ w. p (e.0, w)) one ∙ is e.0 order in
          here order one (p e) passes ∙ ap (λ q. cond q (Some x) None) passes

module _ (spec : Spec) (clock events : ℕ) (s : Stock) (book : Tickets) (table : IsTable spec clock events s book) (at : ℕ) where
  -- the record of an entry that the clock may leave
  pub live-record : (slot : ℕ) (h : Held) → held_at s slot ≡ Some h → record_at h.key (filter (stays at (tickets_of s book)) (records_of spec.expire s)) ≡ cond (is_kept at spec.expire h) (Some (record_of spec.expire h)) None
  live-record slot h there =
      one-left key_cmp (stays at (tickets_of s book)) nat_list_cmp_total h.key (record_of spec.expire h) (is_kept at spec.expire h) (records_of spec.expire s) (sorted-entries key_cmp nat_list_cmp_total (map (option_map (keyed spec.expire)) s.slots)) (lookup-at spec.expire s table.stock slot h there)
      (λ key same. ap (λ k. stays at (tickets_of s book) (k, record_of spec.expire h)) (sym (exact_bytes h.key key same)) ∙ sym (kept-is (tickets_of s book) at spec.expire h (table.counted slot h there)))

  -- and of a key that has none that it leaves
  pub gone-record : (key : Key) → IsGone s spec.expire at key → record_at key (filter (stays at (tickets_of s book)) (records_of spec.expire s)) ≡ None
  gone-record key gone =
      none-left key_cmp (stays at (tickets_of s book)) key (records_of spec.expire s) (all-entries key_cmp exact_bytes (λ (e : Key × Record). key_cmp key e.0 ≡ Equal → stays at (tickets_of s book) e ≡ false) (map (option_map (keyed spec.expire)) s.slots) (λ j e there same.
      let b = held-from spec.expire s table.stock j e there in
      subst (λ (x : Key × Record). stays at (tickets_of s book) x ≡ false) b.2
      (sym (kept-is (tickets_of s book) at spec.expire b.0 (table.counted j b.0 b.1)) ∙ gone j b.0 b.1 (ap (λ (x : Key × Record). x.0) b.2 ∙ sym (exact_bytes key e.0 same)))))

  shows : Key → Option Record → Reply
  shows key o = option_map_or (λ found. ARow (row_of spec.columns at (refs key (tickets_of s book)) key found)) o Absent

  -- ---- a look at a key
  pub shown-gone : (key : Key) → IsGone s spec.expire at key → shown_reply (state_of spec clock events s book) at key ≡ Absent
  unfolding shows
  shown-gone key gone = ap (shows key) (gone-record key gone)

  pub shown-row : (key : Key) (slot : ℕ) (h : Held) (row : Row) → held_at s slot ≡ Some h → h.key ≡ key → is_kept at spec.expire h ≡ true → row ≡ row_of spec.columns at h.entry.refs h.key (record_of spec.expire h)
      → ARow row ≡ shown_reply (state_of spec clock events s book) at key
  unfolding shows
  shown-row key slot h row there keyed lives is =
      ap ARow (is ∙ ap (λ n. row_of spec.columns at n h.key (record_of spec.expire h)) (table.counted slot h there))
      ∙ sym (ap (shows h.key) (live-record slot h there ∙ ap (λ b. cond b (Some (record_of spec.expire h)) None) lives))
      ∙ ap (λ k. shown_reply (state_of spec clock events s book) at k) keyed

  -- ---- a look at a ticket
  module _ (ticket : Ticket) where
    pub looked-absent : entry_of ticket book ≡ None → looked_reply (state_of spec clock events s book) at ticket ≡ Absent
    looked-absent none =
        ap (λ o. option_map_or (shown_reply (state_of spec clock events s book) at) o Absent) (lookup-keys s (same_ticket ticket) book.tickets ∙ ap (option_map (λ slot. key_in (held_at s slot))) none)

    pub looked-row : (slot : ℕ) (h : Held) (row : Row) → entry_of ticket book ≡ Some slot → held_at s slot ≡ Some h → row ≡ row_of spec.columns at h.entry.refs h.key (record_of spec.expire h) → ARow row ≡ looked_reply (state_of spec clock events s book) at ticket
    looked-row slot h row out there is =
        shown-row h.key slot h row there refl (ap (λ b. b || outlives at (record_of spec.expire h)) (lt-to 0 h.entry.refs (release-some spec clock events s book table ticket slot out h there))) is
        ∙ sym (ap (λ o. option_map_or (shown_reply (state_of spec clock events s book) at) o Absent) (lookup-keys s (same_ticket ticket) book.tickets ∙ ap (option_map (λ i. key_in (held_at s i))) out ∙ ap (λ (o : Option Held). Some (key_in o)) there))
