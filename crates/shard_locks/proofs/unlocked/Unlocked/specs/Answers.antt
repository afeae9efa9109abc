use Rattle.std.proofs.Common.{◌∙◌, sym, ap, length}
use Rattle.shard_locks.specs.ShardsState.{UnlockedState}
use Rattle.shard_locks.proofs.ShardsLemmas.{parts_count}
use Rattle.shard_locks.proofs.unlocked.Unlocked.specs.Goals as goal

pub returns-clause-count : goal.returns-clause-count
returns-clause-count g c =
    let inside : UnlockedState = record { spec = c.self.inside.spec; specs = c.self.inside.specs.items; keep = c.self.inside.keep; first = c.self.inside.first; books = c.self.inside.books.items; keepers = c.self.inside.keepers.items } in
    parts_count inside c.args.self.now c.self.view_is c.self.invariant.0 ∙ sym (ap length c.as_slice.ensures.value)
