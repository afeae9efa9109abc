use Rattle.std.proofs.Common.{◌≡◌, ◌∙◌, ◌<◌, ap, arith, length, List}
use Rattle.stored_data.specs.declared.stored_set.Column.{Column}
use Rattle.stick_model.specs.Gathered.{Gathered}
use Rattle.stick_pooled.specs.Seen.{listed_row, with_listed}
use Rattle.stick_pooled.specs.Stock.{held_at}
use Rattle.stick_pooled.proofs.GatherLemmas.{gather-more, listed-keeps}
use Rattle.stick_pooled.proofs.listing.walk_rows.Goals as goal

pub loop-slot-preserved : goal.loop-slot-preserved
loop-slot-preserved c =
    let here = c.loop-slot.invariant in
    let spec = c.args.spec.now in
    let s = c.args.store.now in
    let slot = c.loop-slot.slot in
    let old : Gathered = c.loop-slot.rows in
    let new : Gathered = c.gather_slot.new.rows in
    let within : slot < length s.slots = omega (arith, c.requires.size, c.loop-slot-test.true) in
    let adds : new ≡ with_listed old (listed_row spec.columns spec.expire c.args.clock c.args.choice.now (held_at s slot)) =
    c.in_ok-gather_slot.ensures ∙ ap (λ (columns : List Column). with_listed old (listed_row columns spec.expire c.args.clock c.args.choice.now (held_at s slot))) here.columns in
    let keeps = listed-keeps old new _ adds in
    record {
      rows = gather-more spec.columns spec.expire c.args.clock c.args.choice.now s.slots slot old new _ within adds here.rows;
      columns = keeps.0 ∙ here.columns;
      clock = keeps.1 ∙ here.clock;
    }
