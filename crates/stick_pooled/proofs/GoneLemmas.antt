-- A purge, entry by entry: each round takes the front of the queue.
use Rattle.std.proofs.Common.{◌≡◌, ℕ, ◌+◌, ◌-◌, ◌<◌, ◌≤◌, ◌⊎◌, inl, inr, refl, sym, ◌∙◌, ap, subst, arith, List, length, Option, Some, None}
use Rattle.std.specs.Prelude.{slice_get}
use Rattle.std.proofs.lemmas.List.{length-set}
use Rattle.entry_pool.proofs.SlotLemmas.{get_within}
use Rattle.stick_pooled.specs.Stock.{Stock, IsStock, IsFree, held_count, without_slot}
use Rattle.stick_pooled.proofs.StockLemmas.{none_some, removed}
use Rattle.stick_table.proofs.EntryLemmas.{fewer_without}
use Rattle.stick_model.specs.Key.{Key, same_key}
use Rattle.stick_model.specs.Room.{purged}
use Rattle.stick_model.specs.declared.rows.Ticket.{Ticket}
use Rattle.stick_model.specs.declared.rows.Record.{Record}
use Rattle.stick_pooled.specs.Shown.{records_of, AreCounted, IsRising, IsLeft}
use Rattle.stick_pooled.specs.Space.{IsPurged}
use Rattle.stick_pooled.proofs.RecordLemmas.{lookup-at, records-without, rising-without, counted-left, first-queued}
use Rattle.stick_pooled.proofs.TableLemmas.{free-left, records-length}
use Rattle.stick_pooled.proofs.RoomLemmas.{purged-front, purged-held, purged-none}

-- so many are gone: a purge of more takes these first
pub record AreGone (count : ℕ) (old now : Stock) : Type 0 where
  pub records : (expire : Option ℕ) (tickets : List (Ticket × Key)) → AreCounted old tickets → (n : ℕ) → purged (n + count) tickets (records_of expire old) ≡ purged n tickets (records_of expire now)
  pub fewer : ((now ≡ old) × (count ≡ 0)) ⊎ (held_count now < held_count old)
  pub left : IsLeft old now
  pub stock : IsStock now
  pub rising : IsRising now now.queue
  pub columns : now.columns ≡ old.columns
  pub newest : now.newest ≡ old.newest
  pub size : length now.slots ≡ length old.slots

sum-zero : (n : ℕ) → n + 0 ≡ n
sum-zero n = omega arith

zero-sum : (n : ℕ) → n ≡ 0 + n
zero-sum n = omega arith

pub none-gone : (s : Stock) → IsStock s → IsRising s s.queue → AreGone 0 s s
none-gone s kept rising = record {
  records = λ expire tickets counted n. ap (λ m. purged m tickets (records_of expire s)) (sum-zero n);
  fewer = inl (refl, refl);
  left = record { fewer = λ slot held there. there; tracked = λ slot held there some. there; base = refl };
  stock = kept;
  rising = rising;
  columns = refl;
  newest = refl;
  size = refl;
}

module _ (count : ℕ) (old now : Stock) (gone : AreGone count old now) where
  pub one-gone : (front : ℕ) → slice_get now.queue 0 ≡ Some front → AreGone (count + 1) old (without_slot now front)
  one-gone front first =
      let kept = gone.stock in
      let f : IsFree now front = (kept.queued front).0 (first-queued now.queue front first) in
      let last : IsLeft now (without_slot now front) = free-left now front kept f in
      let stock : IsStock (without_slot now front) = removed now front kept (get_within now.slots front f.held f.there) in
      record {
        records = λ expire tickets counted n.
            ap (λ m. purged m tickets (records_of expire old)) (moved n)
            ∙ gone.records expire tickets counted (n + 1)
            ∙ purged-front expire now kept tickets (counted-left old now tickets gone.left counted) gone.rising front first f n;
        fewer = inr (less (one-less kept f stock) gone.fewer);
        left = record { fewer = λ slot held there. gone.left.fewer slot held (last.fewer slot held there); tracked = λ slot held there some. last.tracked slot held (gone.left.tracked slot held there some) some; base = gone.left.base };
        stock = stock;
        rising = rising-without now front now.queue gone.rising;
        columns = gone.columns;
        newest = gone.newest;
        size = length-set now.slots front None ∙ gone.size;
      }
    where
      moved : (n : ℕ) → n + (count + 1) ≡ n + 1 + count
      moved n = omega arith

      one-less : IsStock now → (f : IsFree now front) → IsStock (without_slot now front) → held_count (without_slot now front) < held_count now
      one-less kept f stock =
          let before : length (records_of None now) ≡ held_count now = records-length None now kept in
          let after : length (records_of None (without_slot now front)) ≡ held_count (without_slot now front) = records-length None (without_slot now front) stock in
          let fewer : length (records_of None (without_slot now front)) + 1 ≤ length (records_of None now) =
          subst (λ (rs : List (Key × Record)). length rs + 1 ≤ length (records_of None now)) (sym (records-without None now kept front f.held f.there))
          (fewer_without (same_key f.held.key) (records_of None now) (λ none. none_some (sym none ∙ lookup-at None now kept front f.held f.there))) in
          omega (arith, before, after, fewer)

      less : held_count (without_slot now front) < held_count now → ((now ≡ old) × (count ≡ 0)) ⊎ (held_count now < held_count old) → held_count (without_slot now front) < held_count old
      less one (inl same) = subst (λ (x : Stock). held_count (without_slot now front) < held_count x) same.0 one
      less one (inr few) = omega (arith, one, few)

  -- as many as told
  pub purged-all : IsPurged count old now
  purged-all = record {
    records = λ expire tickets counted.
        ap (λ m. purged m tickets (records_of expire old)) (zero-sum count)
        ∙ gone.records expire tickets counted 0
        ∙ purged-none expire now gone.stock tickets (counted-left old now tickets gone.left counted);
    fewer = λ some front first. less some gone.fewer;
    left = gone.left;
    stock = gone.stock;
    rising = gone.rising;
    columns = gone.columns;
    newest = gone.newest;
    size = gone.size;
  }
    where
      less : 1 ≤ count → ((now ≡ old) × (count ≡ 0)) ⊎ (held_count now < held_count old) → held_count now < held_count old
      less some (inl same) = absurd (omega (arith, some, same.1))
      less some (inr few) = few

  -- or all that can go
  pub purged-early : (purge : ℕ) → count ≤ purge → slice_get now.queue 0 ≡ None → IsPurged purge old now
  purged-early purge within none = record {
    records = λ expire tickets counted.
        ap (λ m. purged m tickets (records_of expire old)) parts
        ∙ gone.records expire tickets counted (purge - count)
        ∙ purged-held expire now gone.stock tickets (counted-left old now tickets gone.left counted) none (purge - count);
    fewer = λ some front first. less front first gone.fewer;
    left = gone.left;
    stock = gone.stock;
    rising = gone.rising;
    columns = gone.columns;
    newest = gone.newest;
    size = gone.size;
  }
    where
      parts : purge ≡ purge - count + count
      parts = omega (arith, within)

      less : (front : ℕ) → slice_get old.queue 0 ≡ Some front → ((now ≡ old) × (count ≡ 0)) ⊎ (held_count now < held_count old) → held_count now < held_count old
      less front first (inl same) = absurd (none_some (sym none ∙ ap (λ (x : Stock). slice_get x.queue 0) same.0 ∙ first))
      less front first (inr few) = few
