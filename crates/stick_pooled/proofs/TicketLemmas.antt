-- The tickets that are out once an event is counted: the same, one less, or one more.
use Rattle.std.proofs.Common.{◌≡◌, ◌≢◌, ℕ, ◌+◌, ◌<◌, ◌≤◌, refl, sym, ◌∙◌, ap, subst, arith, List, [], ◌∷◌, ◌++◌, length, map, filter, Bool, true, false, cond, not, Some, None, is_some, IsSome}
use Rattle.std.specs.Prelude.{nat_eq, ◌&&◌}
use Rattle.std.specs.List.{AllByRecursion, IsDistinct}
use Rattle.std.specs.Map.{lookup}
use Rattle.std.proofs.lemmas.Bool.Decides.{nat_tests}
use Rattle.std.proofs.lemmas.List.{length-map, map-append}
use Rattle.std.proofs.lemmas.List.Sums.{sum_by-cons, sum_by-append}
use Rattle.std.proofs.lemmas.List.Folds.{list_all-map}
use Rattle.stick_pooled.specs.Stock.{Held, Stock, held_at, key_in}
use Rattle.stick_pooled.proofs.StockLemmas.{none_some, same_some}
use Rattle.stick_pooled.specs.Tickets.{Tickets, entry_of, is_unused, with_ticket, without_ticket}
use Rattle.stick_table.specs.Invariant.{IsBounded}
use Rattle.stick_table.proofs.EntryLemmas.{fewer_without}
use Rattle.stick_model.specs.Key.{Key, same_key}
use Rattle.stick_model.specs.State.{refs, same_ticket, is_free}
use Rattle.stick_model.specs.declared.rows.Ticket.{Ticket}
use Rattle.stick_model.specs.declared.specification.Spec.{Spec}
use Rattle.stick_model.proofs.EntryLemmas.{all-filter, distinct-filter, all-push, distinct-push}
use Rattle.stick_model.proofs.TestLemmas.{and-left}
use Rattle.stick_pooled.specs.Table.{with_key, number_of, tickets_of, IsTable}
use Rattle.stick_pooled.proofs.TableLemmas.{later-numbers}
use Rattle.stick_pooled.proofs.WriteLemmas.{AreNext}

module _ (spec : Spec) (clock events : ℕ) (s : Stock) (book : Tickets) (table : IsTable spec clock events s book) where
  -- ---- the same
  pub next-same : (new : Stock) → tickets_of new book ≡ tickets_of s book → AllByRecursion (λ (t : Ticket × ℕ). IsSome (held_at new t.1)) book.tickets → events + length (tickets_of s book) < spec.life → AreNext spec clock (events + 1) new book
  next-same new same held life = record {
    bounded = subst (IsBounded spec clock (events + 1)) (sym same) (record {
      spec_ok = table.bounded.spec_ok;
      clock_ok = table.bounded.clock_ok;
      life_ok = omega (arith, life);
      tickets_ok = table.bounded.tickets_ok;
    });
    held = held;
    numbered = table.numbered;
    issued = later-numbers events (map number_of book.tickets) table.issued;
    newest = let n = table.book_newest in omega (arith, n);
    capacity = table.capacity;
  }

-- ---- one less
pub drop-keys : (new : Stock) (ticket : Ticket) (bt : List (Ticket × ℕ)) → map (with_key new) (filter (λ (t : Ticket × ℕ). not (same_ticket ticket t.0)) bt) ≡ filter (λ (t : Ticket × Key). not (same_ticket ticket t.0)) (map (with_key new) bt)
drop-keys new ticket [] = refl
drop-keys new ticket (t ∷ bt) = go (drop-keys new ticket bt) (same_ticket ticket t.0)
  where
    go : map (with_key new) (filter (λ (t : Ticket × ℕ). not (same_ticket ticket t.0)) bt) ≡ filter (λ (t : Ticket × Key). not (same_ticket ticket t.0)) (map (with_key new) bt) → (b : Bool)
        → map (with_key new) (cond (not b) (t ∷ filter (λ (t : Ticket × ℕ). not (same_ticket ticket t.0)) bt) (filter (λ (t : Ticket × ℕ). not (same_ticket ticket t.0)) bt)) ≡ cond (not b) (with_key new t ∷ filter (λ (t : Ticket × Key). not (same_ticket ticket t.0)) (map (with_key new) bt)) (filter (λ (t : Ticket × Key). not (same_ticket ticket t.0)) (map (with_key new) bt))
    go rest true = rest
    go rest false = ap (λ ts. with_key new t ∷ ts) rest

all-kept : (new : Stock) (q : Ticket × ℕ → Bool) (bt : List (Ticket × ℕ)) → AllByRecursion (λ (t : Ticket × ℕ). IsSome (held_at new t.1)) bt → AllByRecursion (λ (t : Ticket × ℕ). IsSome (held_at new t.1)) (filter q bt)
all-kept new q [] h = tt
all-kept new q (t ∷ bt) h = elim (q t) as (λ b. AllByRecursion (λ (t : Ticket × ℕ). IsSome (held_at new t.1)) (cond b (t ∷ filter q bt) (filter q bt))) [ true ↦ (h.0, all-kept new q bt h.1) | false ↦ all-kept new q bt h.1 ]

-- where none of the rest has the number, all of it stays
all-stay : (ticket : Ticket) (n : ℕ) (bt : List (Ticket × ℕ)) → nat_eq ticket.number n ≡ true → AllByRecursion (λ m. nat_eq n m ≡ false) (map number_of bt) → filter (λ (t : Ticket × ℕ). not (same_ticket ticket t.0)) bt ≡ bt
all-stay ticket n [] is h = refl
all-stay ticket n (t ∷ bt) is h =
    let apart : nat_eq ticket.number t.0.number ≡ false = differs ticket.number n t.0.number is h.0 in
    ap (λ b. cond (not (b && nat_eq ticket.slot t.0.slot)) (t ∷ filter (λ (u : Ticket × ℕ). not (same_ticket ticket u.0)) bt) (filter (λ (u : Ticket × ℕ). not (same_ticket ticket u.0)) bt)) apart
    ∙ ap (λ ts. t ∷ ts) (all-stay ticket n bt is h.1)
  where
    differs : (a b c : ℕ) → nat_eq a b ≡ true → nat_eq b c ≡ false → nat_eq a c ≡ false
    differs a b c one other = grind (arith, nat_tests)

module _ (s : Stock) (ticket : Ticket) (key : Key) where
  refs-cons : (t : Ticket × Key) (ts : List (Ticket × Key)) → refs key (t ∷ ts) ≡ cond (same_key key t.1) 1 0 + refs key ts
  refs-cons t ts = sum_by-cons (λ (held : Ticket × Key). cond (same_key key held.1) 1 0) t ts

  -- one reference less
  pub refs-less : (bt : List (Ticket × ℕ)) (slot : ℕ) → lookup (same_ticket ticket) bt ≡ Some slot → IsDistinct nat_eq (map number_of bt)
      → refs key (map (with_key s) (filter (λ (t : Ticket × ℕ). not (same_ticket ticket t.0)) bt)) + cond (same_key key (key_in (held_at s slot))) 1 0 ≡ refs key (map (with_key s) bt)
  unfolding IsDistinct
  refs-less [] slot is once = absurd (none_some is)
  refs-less (t ∷ bt) slot is once = go (λ later. refs-less bt slot later once.1) (same_ticket ticket t.0) refl is
    where
      go : (lookup (same_ticket ticket) bt ≡ Some slot → refs key (map (with_key s) (filter (λ (t : Ticket × ℕ). not (same_ticket ticket t.0)) bt)) + cond (same_key key (key_in (held_at s slot))) 1 0 ≡ refs key (map (with_key s) bt))
          → (b : Bool) → same_ticket ticket t.0 ≡ b → cond b (Some t.1) (lookup (same_ticket ticket) bt) ≡ Some slot
          → refs key (map (with_key s) (cond (not b) (t ∷ filter (λ (t : Ticket × ℕ). not (same_ticket ticket t.0)) bt) (filter (λ (t : Ticket × ℕ). not (same_ticket ticket t.0)) bt))) + cond (same_key key (key_in (held_at s slot))) 1 0 ≡ refs key (with_key s t ∷ map (with_key s) bt)
      go rest true same here =
          let one : ◌≡◌ {A = ℕ} (cond (same_key key (key_in (held_at s t.1))) 1 0) (cond (same_key key (key_in (held_at s slot))) 1 0) = ap (λ i. cond {A = ℕ} (same_key key (key_in (held_at s i))) 1 0) (same_some here) in
          let all : refs key (map (with_key s) (filter (λ (t : Ticket × ℕ). not (same_ticket ticket t.0)) bt)) ≡ refs key (map (with_key s) bt) =
          ap (λ ts. refs key (map (with_key s) ts)) (all-stay ticket t.0.number bt (and-left (nat_eq ticket.number t.0.number) (nat_eq ticket.slot t.0.slot) same) once.0) in
          omega (arith, one, all, refs-cons (with_key s t) (map (with_key s) bt))
      go rest false other later =
          let more = rest later in
          omega (arith, more, refs-cons (with_key s t) (map (with_key s) bt), refs-cons (with_key s t) (map (with_key s) (filter (λ (t : Ticket × ℕ). not (same_ticket ticket t.0)) bt)))

  -- one reference more
  pub refs-push : (t : Ticket × Key) (ts : List (Ticket × Key)) → refs key (ts ++ t ∷ []) ≡ refs key ts + cond (same_key key t.1) 1 0
  refs-push t ts =
      let joined = sum_by-append (λ (held : Ticket × Key). cond {A = ℕ} (same_key key held.1) 1 0) ts (t ∷ []) in
      let last = sum_by-cons (λ (held : Ticket × Key). cond {A = ℕ} (same_key key held.1) 1 0) t [] in
      omega (arith, joined, last)

module _ (spec : Spec) (clock events : ℕ) (s : Stock) (book : Tickets) (table : IsTable spec clock events s book) where
  -- a release needs no life: its reference goes as its event is counted
  pub next-fewer : (new : Stock) (ticket : Ticket) → tickets_of new book ≡ tickets_of s book → AllByRecursion (λ (t : Ticket × ℕ). IsSome (held_at new t.1)) book.tickets → entry_of ticket book ≢ None
      → AreNext spec clock (events + 1) new (without_ticket book ticket)
  next-fewer new ticket same held out =
      let fewer : length (tickets_of new (without_ticket book ticket)) + 1 ≤ length (tickets_of s book) =
      let less = fewer_without (same_ticket ticket) book.tickets out in
      omega (arith, less, length-map (filter (λ (t : Ticket × ℕ). not (same_ticket ticket t.0)) book.tickets) (with_key new), length-map book.tickets (with_key s)) in
      record {
        bounded = record {
          spec_ok = table.bounded.spec_ok;
          clock_ok = table.bounded.clock_ok;
          life_ok = let l = table.bounded.life_ok in omega (arith, fewer, l);
          tickets_ok = let l = table.bounded.tickets_ok in omega (arith, fewer, l);
        };
        held = all-kept new (λ (t : Ticket × ℕ). not (same_ticket ticket t.0)) book.tickets held;
        numbered = distinct-filter number_of nat_eq (λ (t : Ticket × ℕ). not (same_ticket ticket t.0)) book.tickets table.numbered;
        issued = all-filter number_of (λ number. number ≤ events + 1) (λ (t : Ticket × ℕ). not (same_ticket ticket t.0)) book.tickets (later-numbers events (map number_of book.tickets) table.issued);
        newest = let n = table.book_newest in omega (arith, n);
        capacity = table.capacity;
      }

  apart-numbers : (numbers : List ℕ) → AllByRecursion (λ number. number ≤ events) numbers → AllByRecursion (λ m. nat_eq m (events + 1) ≡ false) numbers
  apart-numbers [] h = tt
  apart-numbers (n ∷ ns) h = (below n events h.0, apart-numbers ns h.1)
    where
      below : (a b : ℕ) → a ≤ b → nat_eq a (b + 1) ≡ false
      below a b h = grind (arith, nat_tests)

  all-more : (new : Stock) (t : Ticket × ℕ) (bt : List (Ticket × ℕ)) → AllByRecursion (λ (t : Ticket × ℕ). IsSome (held_at new t.1)) bt → IsSome (held_at new t.1) → AllByRecursion (λ (t : Ticket × ℕ). IsSome (held_at new t.1)) (bt ++ t ∷ [])
  all-more new t [] h last = (last, tt)
  all-more new t (u ∷ bt) h last = (h.0, all-more new t bt h.1 last)

  -- the tickets with one more of a key
  pub tickets-more : (new : Stock) (ticket : Ticket) (slot : ℕ) (h : Held) → held_at new slot ≡ Some h → tickets_of new book ≡ tickets_of s book → tickets_of new (with_ticket book ticket slot) ≡ tickets_of s book ++ (ticket, h.key) ∷ []
  tickets-more new ticket slot h there same =
      map-append (with_key new) book.tickets ((ticket, slot) ∷ []) ∙ ap (λ ts. ts ++ (ticket, key_in (held_at new slot)) ∷ []) same ∙ ap (λ o. tickets_of s book ++ (ticket, key_in o) ∷ []) there

  pub next-more : (new : Stock) (ticket : Ticket) (slot : ℕ) (h : Held) → held_at new slot ≡ Some h → tickets_of new book ≡ tickets_of s book → AllByRecursion (λ (t : Ticket × ℕ). IsSome (held_at new t.1)) book.tickets
      → ticket.number ≡ events + 1 → events + length (tickets_of s book) + 2 ≤ spec.life → length (tickets_of s book) < spec.max_refs → AreNext spec clock (events + 1) new (with_ticket book ticket slot)
  next-more new ticket slot h there same held number life left =
      let more : length (tickets_of new (with_ticket book ticket slot)) ≡ length (tickets_of s book) + 1 =
      ap length (tickets-more new ticket slot h there same) ∙ length-push (ticket, h.key) (tickets_of s book) in
      record {
        bounded = record {
          spec_ok = table.bounded.spec_ok;
          clock_ok = table.bounded.clock_ok;
          life_ok = omega (arith, more, life);
          tickets_ok = omega (arith, more, left);
        };
        held = all-more new (ticket, slot) book.tickets held (ap is_some there);
        numbered = distinct-push number_of nat_eq book.tickets (ticket, slot) table.numbered (subst (λ n. AllByRecursion (λ m. nat_eq m n ≡ false) (map number_of book.tickets)) (sym number) (apart-numbers (map number_of book.tickets) table.issued));
        issued = all-push number_of (λ n. n ≤ events + 1) book.tickets (ticket, slot) (later-numbers events (map number_of book.tickets) table.issued) (omega (arith, number));
        newest = omega (arith, number);
        capacity = table.capacity;
      }
    where
      length-push : {X : Type 0} (x : X) (xs : List X) → length (xs ++ x ∷ []) ≡ length xs + 1
      length-push x [] = refl
      length-push x (y ∷ ys) = let rest = length-push x ys in omega (arith, rest)

-- a place that the book has free is that of no ticket
pub free-place : (s : Stock) (book : Tickets) (place : ℕ) → is_unused place book ≡ true → is_free place (tickets_of s book) ≡ true
free-place s book place free = list_all-map (λ (held : Ticket × Key). not (nat_eq held.0.slot place)) (with_key s) book.tickets ∙ free
