use Rattle.std.proofs.Common.{length}
use Rattle.shard_locks.specs.ShardsState.{ShardsState}
use Rattle.shard_locks.proofs.ShardsLemmas.{part_made}
use Rattle.shard_locks.proofs.shards.Shards.book_of.Goals as goal

pub returns-clause-made : goal.returns-clause-made
returns-clause-made g c =
    let inside : ShardsState = record { spec = c.self.inside.spec; shards = length c.self.inside.books.items; keep = c.self.inside.keep; first = c.self.inside.first } in
    part_made g.J.Naming.specs inside c.args.self.now c.args.shard c.self.view_is c.self.invariant.2 c.requires
