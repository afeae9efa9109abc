use Rattle.std.proofs.Common.{◌≡◌, ◌∙◌, ℕ, Bool, List, [], ◌∷◌, sym, subst, arith}
use Rattle.std.proofs.lemmas.List.{nil_from_length}
use Rattle.stick_key.specs.Shard.{shard}
use Rattle.stick_model.specs.declared.events.Event.TheVariants.{Clear}
use Rattle.stick_model.specs.declared.rows.Row.{Row}
use Rattle.table_cli.specs.Shards.{AsksInTurn}
use Rattle.table_cli.proofs.ClearingLemmas.{GoesOn, goes_last, goes_more, goes_wrong}
use Rattle.table_cli.proofs.clear_matching.clear_each.Goals as goal

pub returns-in-Err-clause-clears : goal.returns-in-Err-clause-clears
returns-in-Err-clause-clears g c =
    let K = g.K.Keeper in
    let so_far = c.loop-row.invariant in
    let asked = c.in-Err.ensures.asks in
    let left : List Row = c.loop-row.row-iterator.rest.items in
    let later : List Row = c.next.new.self.rest.items in
    let steps : left ≡ c.in-Some.row ∷ later = c.in-Some.ensures.steps.0 in
    let asks = subst (λ (n : ℕ). AsksInTurn K.answers K.refuses (Clear c.args.moment c.in-Some.row.key) (shard c.in-Some.row.key n ∷ []) (K.state c.loop-row.keeper) asked.0 asked.1 (K.state c.ask.new.keeper)) so_far.parts asked.2 in
    goes_wrong K.answers K.refuses c.args.moment (K.parts c.args.keeper.now) c.args.rows.items left later c.in-Some.row (K.state c.args.keeper.now) (K.state c.loop-row.keeper) (K.state c.ask.new.keeper) c.loop-row.stays
    asked.0 asked.1 c.in-Err.message steps so_far.clears asks asked.3

pub loop-row-preserved : goal.loop-row-preserved
loop-row-preserved g c =
    let K = g.K.Keeper in
    let so_far = c.loop-row.invariant in
    let asked = c.in-Ok.ensures.asks in
    let left : List Row = c.loop-row.row-iterator.rest.items in
    let later : List Row = c.next.new.self.rest.items in
    let steps : left ≡ c.in-Some.row ∷ later = c.in-Some.ensures.steps.0 in
    let asks = subst (λ (n : ℕ). AsksInTurn K.answers K.refuses (Clear c.args.moment c.in-Some.row.key) (shard c.in-Some.row.key n ∷ []) (K.state c.loop-row.keeper) asked.0 asked.1 (K.state c.ask.new.keeper)) so_far.parts asked.2 in
    record {
      clears = subst (λ (stays : Bool). GoesOn K.answers K.refuses c.args.moment (K.parts c.args.keeper.now) c.args.rows.items (K.state c.args.keeper.now) later (K.state c.ask.new.keeper) stays) (sym c.stays_after-stays.ensures)
          (goes_more K.answers K.refuses c.args.moment (K.parts c.args.keeper.now) c.args.rows.items left later c.in-Some.row (K.state c.args.keeper.now) (K.state c.loop-row.keeper) (K.state c.ask.new.keeper) c.loop-row.stays
          asked.0 asked.1 c.in-Ok.reply steps so_far.clears asks asked.3.0 asked.3.1);
      table = c.ask.ensures.table ∙ so_far.table;
      parts = c.ask.ensures.parts ∙ so_far.parts;
    }

pub returns-clause-clears : goal.returns-clause-clears
returns-clause-clears g c =
    let K = g.K.Keeper in
    let none : c.loop-row.row-iterator.rest.items ≡ [] = nil_from_length _ (omega (arith, c.in-None.ensures.steps.0, c.loop-row.row-iterator.rest.ok.0)) in
    goes_last K.answers K.refuses c.args.moment (K.parts c.args.keeper.now) c.args.rows.items c.loop-row.row-iterator.rest.items (K.state c.args.keeper.now) (K.state c.loop-row.keeper) c.loop-row.stays none c.loop-row.invariant.clears
