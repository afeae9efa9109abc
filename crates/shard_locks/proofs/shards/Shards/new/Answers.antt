use Rattle.std.proofs.Common.{◌+◌, ◌≤◌, ◌<◌, ◌^◌, sym, subst, arith}
use Rattle.shard_locks.specs.Shared.{AreNumbered, AreParts}
use Rattle.shard_locks.specs.ShardsState.{AreShards}
use Rattle.shard_locks.proofs.shards.Shards.new.Goals as goal

pub invariant_of-table : goal.invariant_of-table
invariant_of-table g c =
    let shards = c.args.shards in
    let specs = c.in_ok-specs.specs.items in
    let books = g.J.Naming.books in
    let are : AreShards c.args.spec shards specs = record { limits = c.requires.spec; some = c.requires.some; few = c.requires.few; places = c.requires.places; parts = c.in_ok-specs.ensures } in
    let few : c.kept-first.result + shards < 2 ^ 32 = omega (arith, c.if-room-first.false, c.requires.few) in
    let within : c.kept-first.result + shards ≤ books = omega (arith, c.kept-first.ensures.kept, c.kept-first.ensures.books, c.requires.left.books) in
    let numbered : AreNumbered c.kept-first.result shards books = record { within = within; few = few } in
    let parts : AreParts g.J.Naming.specs c.kept-first.result c.args.spec shards = subst (λ n. AreParts g.J.Naming.specs n c.args.spec shards) (sym c.kept-first.ensures.kept) c.requires.parts in (
      subst (λ n. AreShards c.args.spec n specs) (sym c.in_ok-books.ensures.locks) are,
      subst (λ n. AreNumbered c.kept-first.result n books) (sym c.in_ok-books.ensures.locks) numbered,
      subst (AreParts g.J.Naming.specs c.kept-first.result c.args.spec) (sym c.in_ok-books.ensures.locks) parts,
    )
