use Rattle.std.proofs.Common.{ap, ◌∙◌, sym}
use Rattle.stored_data.specs.Words.{fields_in, width}
use Rattle.stick_pooled.proofs.PartLemmas.{in_grid, values_are}
use Rattle.stick_pooled.specs.Parts.{base_shown}
use Rattle.stick_pooled.specs.Stock.{Stock}
use Rattle.stick_pooled.proofs.entry_store.Store.words.Goals as goal

pub row-requires : goal.row-requires
row-requires c = in_grid c.self.inside.entries c.self.inside.index c.self.inside.order c.self.inside.rows c.self.invariant.0 (base_shown c.self.inside.entries c.self.inside.index c.self.inside.rows c.self.inside.images) c.args.self.now c.self.view_is c.args.slot c.requires

pub returns-clause-data : goal.returns-clause-data
returns-clause-data c held there =
    ap (λ (s : Stock). fields_in s.columns c.row.result.now) (sym c.self.view_is) ∙ c.row.ensures.data
    ∙ values_are c.self.inside.entries c.self.inside.index c.self.inside.order c.self.inside.rows c.self.invariant.0 (base_shown c.self.inside.entries c.self.inside.index c.self.inside.rows c.self.inside.images) c.args.self.now c.self.view_is c.args.slot held there

pub returns-clause-sized : goal.returns-clause-sized
returns-clause-sized c = c.row.ensures.sized ∙ ap (λ (s : Stock). width s.columns) c.self.view_is
