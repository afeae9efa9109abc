use Rattle.std.proofs.Common.{◌≡◌, ℕ, ◌+◌, ◌<◌, Some, arith, true, false, not, sym, ◌∙◌, ap, subst, filter, length}
use Rattle.std.specs.Option.{option_map_or}
use Rattle.std.proofs.lemmas.List.{length-set}
use Rattle.entry_pool.proofs.SlotLemmas.{get_within}
use Rattle.stick_pooled.specs.Stock.{Held, Stock, IsStock, held_at}
use Rattle.stick_pooled.proofs.StockLemmas.{removed}
use Rattle.stick_model.specs.Filters.{is_matched}
use Rattle.stick_pooled.specs.Seen.{is_meant_as}
use Rattle.stick_pooled.specs.Shown.{records_of, IsRising, IsLeft}
use Rattle.stick_pooled.proofs.RecordLemmas.{counted-left, rising-without}
use Rattle.stick_pooled.proofs.ClearLemmas.{meant-free, meant-at, left-free, meant-gone, meant-goes, none-meant}
use Rattle.stick_pooled.proofs.clearing.remove_matching.Goals as goal

pub remove-requires : goal.remove-requires
remove-requires c = (c.loop-slot.invariant.stock.queued c.loop-slot.slot).1 (meant-free c.loop-slot.store c.args.clock c.args.choice.now c.loop-slot.slot (sym c.matches.ensures ∙ c.if-not-matches.false))

pub loop-slot-preserved : goal.loop-slot-preserved
loop-slot-preserved c =
    let s = c.loop-slot.store in
    let slot = c.loop-slot.slot in
    let kept = c.loop-slot.invariant in
    let meant : option_map_or (is_meant_as c.args.clock c.args.choice.now false) (held_at s slot) false ≡ true = sym c.matches.ensures ∙ c.if-not-matches.false in
    let f = meant-free s c.args.clock c.args.choice.now slot meant in
    record {
      records = λ tickets expire counted.
          ap (λ (x : Stock). filter (λ entry. not (is_matched c.args.clock tickets c.args.choice.now false entry)) (records_of expire x)) c.remove.ensures
          ∙ meant-goes expire s kept.stock tickets (counted-left c.args.store.now s tickets kept.left counted) c.args.clock c.args.choice.now slot f.held f.there (meant-at s c.args.clock c.args.choice.now slot f.held f.there true meant)
          ∙ kept.records tickets expire counted;
      gone = subst (λ (x : Stock). (j : ℕ) (held : Held) → j < slot + 1 → held_at x j ≡ Some held → is_meant_as c.args.clock c.args.choice.now false held ≡ false) (sym c.remove.ensures) (meant-gone s c.args.clock c.args.choice.now slot f kept.gone);
      stock = subst IsStock (sym c.remove.ensures) (removed s slot kept.stock (get_within s.slots slot f.held f.there));
      rising = subst (λ (x : Stock). IsRising x x.queue) (sym c.remove.ensures) (rising-without s slot s.queue kept.rising);
      left = subst (IsLeft c.args.store.now) (sym c.remove.ensures) (left-free s slot c.args.store.now kept.left f);
      columns = ap (λ (x : Stock). x.columns) c.remove.ensures ∙ kept.columns;
      newest = ap (λ (x : Stock). x.newest) c.remove.ensures ∙ kept.newest;
      slots = ap (λ (x : Stock). length x.slots) c.remove.ensures ∙ length-set s.slots slot _ ∙ kept.slots;
    }

pub returns-clause-records : goal.returns-clause-records
returns-clause-records c tickets expire counted =
    sym (none-meant expire c.loop-slot.store c.loop-slot.invariant.stock tickets (counted-left c.args.store.now c.loop-slot.store tickets c.loop-slot.invariant.left counted) c.args.clock c.args.choice.now (λ j h inside. c.loop-slot.invariant.gone j h (omega arith)))
    ∙ c.loop-slot.invariant.records tickets expire counted
