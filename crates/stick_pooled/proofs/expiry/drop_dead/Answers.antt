use Rattle.std.proofs.Common.{◌<◌, sym, ◌∙◌, ap, subst, length, filter}
use Rattle.std.proofs.lemmas.List.{length-set}
use Rattle.stick_pooled.specs.Stock.{Stock}
use Rattle.stick_model.specs.State.{stays}
use Rattle.stick_pooled.specs.Shown.{records_of, IsRising, IsLeft}
use Rattle.stick_pooled.proofs.RecordLemmas.{length-without, dead-goes, counted-left, all-stay, left-without, rising-without}
use Rattle.stick_pooled.proofs.expiry.drop_dead.Goals as goal

pub loop-slot-smaller : goal.loop-slot-smaller
loop-slot-smaller c =
    let q = c.in-Some.ensures.dead.queued in
    subst (λ (x : Stock). length x.queue < length c.loop-slot.store.queue) (sym c.remove.ensures) (length-without c.loop-slot.store.queue c.in-Some.slot q.0 q.1 q.2)

pub loop-slot-preserved : goal.loop-slot-preserved
loop-slot-preserved c = record {
  records = λ tickets counted.
      ap (λ (x : Stock). filter (stays c.args.clock tickets) (records_of c.args.expire x)) c.remove.ensures
      ∙ dead-goes c.args.expire c.loop-slot.store c.dead_front.ensures.stock c.args.clock c.in-Some.slot tickets (counted-left c.args.store.now c.loop-slot.store tickets c.loop-slot.invariant.left counted) c.in-Some.ensures.dead
      ∙ c.loop-slot.invariant.records tickets counted;
  rising = subst (λ (x : Stock). IsRising x x.queue) (sym c.remove.ensures) (rising-without c.loop-slot.store c.in-Some.slot c.loop-slot.store.queue c.loop-slot.invariant.rising);
  left = subst (IsLeft c.args.store.now) (sym c.remove.ensures) (left-without c.args.expire c.loop-slot.store c.dead_front.ensures.stock c.args.store.now c.args.clock c.in-Some.slot c.loop-slot.invariant.left c.in-Some.ensures.dead);
  columns = ap (λ (x : Stock). x.columns) c.remove.ensures ∙ c.loop-slot.invariant.columns;
  newest = ap (λ (x : Stock). x.newest) c.remove.ensures ∙ c.loop-slot.invariant.newest;
  size = ap (λ (x : Stock). length x.slots) c.remove.ensures ∙ length-set c.loop-slot.store.slots c.in-Some.slot _ ∙ c.loop-slot.invariant.size;
}

pub returns-clause-records : goal.returns-clause-records
returns-clause-records c tickets counted =
    sym (all-stay c.args.expire c.loop-slot.store c.dead_front.ensures.stock c.args.clock tickets (counted-left c.args.store.now c.loop-slot.store tickets c.loop-slot.invariant.left counted) c.in_default.ensures.alive)
    ∙ c.loop-slot.invariant.records tickets counted
