use Rattle.stick_pooled.proofs.PartLemmas.{indexed_some, key_is}
use Rattle.stick_pooled.specs.Parts.{base_shown}
use Rattle.stick_pooled.proofs.entry_store.Store.key.Goals as goal

pub key_of-requires : goal.key_of-requires
key_of-requires c = indexed_some c.self.inside.entries c.self.inside.index c.self.inside.order c.self.inside.rows c.self.invariant.0 (base_shown c.self.inside.entries c.self.inside.index c.self.inside.rows c.self.inside.images) c.args.self.now c.self.view_is c.args.slot c.requires

pub returns : goal.returns
returns c = key_is c.self.inside.entries c.self.inside.index c.self.inside.order c.self.inside.rows c.self.invariant.0 (base_shown c.self.inside.entries c.self.inside.index c.self.inside.rows c.self.inside.images) c.args.self.now c.self.view_is c.args.slot c.key_of.result.now c.requires c.key_of.ensures
