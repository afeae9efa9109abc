use Rattle.std.proofs.Common.{◌<◌, length, rules}
use Rattle.shard_locks.specs.ShardsState.{ShardsState}
use Rattle.shard_locks.proofs.ShardsLemmas.{part_found, part_place, part_within}
use Rattle.shard_locks.proofs.shards.Shards.spec.Goals as goal

pub index-requires : goal.index-requires
index-requires g c =
    let inside : ShardsState = record { spec = c.self.inside.spec; shards = length c.self.inside.books.items; keep = c.self.inside.keep; first = c.self.inside.first } in
    let below : c.args.shard < length c.self.inside.specs.items = part_place inside c.args.self.now c.self.inside.specs.items c.args.shard c.self.view_is c.self.invariant.0 c.requires in
    search rules

pub returns-clause-spec : goal.returns-clause-spec
returns-clause-spec g c =
    let inside : ShardsState = record { spec = c.self.inside.spec; shards = length c.self.inside.books.items; keep = c.self.inside.keep; first = c.self.inside.first } in
    part_found inside c.args.self.now c.self.inside.specs.items c.args.shard c.index.result.now c.self.view_is c.self.invariant.0 c.requires c.index.ensures

pub returns-clause-limits : goal.returns-clause-limits
returns-clause-limits g c =
    let inside : ShardsState = record { spec = c.self.inside.spec; shards = length c.self.inside.books.items; keep = c.self.inside.keep; first = c.self.inside.first } in
    part_within inside c.args.self.now c.self.inside.specs.items c.args.shard c.index.result.now c.self.view_is c.self.invariant.0 c.requires c.index.ensures
