use Rattle.std.proofs.Common.{sym, ap, ◌∙◌}
use Rattle.stick_pooled.specs.Stock.{held_count}
use Rattle.stick_pooled.proofs.PartLemmas.{count}
use Rattle.stick_pooled.specs.Parts.{base_shown}
use Rattle.stick_pooled.proofs.entry_store.Store.len.Goals as goal

pub returns : goal.returns
returns c = let s = c.self.inside in c.len.ensures.count ∙ sym (count s.entries s.index s.order s.rows c.self.invariant.0 (base_shown s.entries s.index s.rows s.images)) ∙ ap held_count c.self.view_is
