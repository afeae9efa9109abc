use Rattle.std.proofs.Common.{length}
use Rattle.shard_locks.specs.ShardsState.{ShardsState}
use Rattle.shard_locks.proofs.HoldingLemmas.{books_inside, none_count, seat_holds}
use Rattle.shard_locks.proofs.shards.Shards.held_none.Goals as goal

pub returns : goal.returns
returns g c =
    let inside : ShardsState = record { spec = c.self.inside.spec; shards = length c.self.inside.books.items; keep = c.self.inside.keep; first = c.self.inside.first } in
    let books = books_inside inside c.args.self.now g.J.Naming.books c.self.view_is c.self.invariant.1 in
    record {
      none = none_count c.args.self.now g.J.Naming.books c.into_token.result books c.into_token.ensures.sees;
      passed = λ limit. seat_holds c.args.self.now g.J.Naming.books limit c.into_token.result books c.into_token.ensures.sees;
    }
