use Rattle.std.proofs.Common.{subst, sym}
use Rattle.stick_model.specs.Limits.{IsTableSpec}
use Rattle.shard_book.proofs.BooksLemmas.{part_limits}
use Rattle.shard_locks.proofs.SharedLemmas.{made_at}
use Rattle.shard_locks.proofs.opening.open_locks.Goals as goal

pub open-requires : goal.open-requires
open-requires g c = subst IsTableSpec (sym c.in_ok-part.ensures) (part_limits c.args.spec.now c.args.shards c.loop-shard.shard c.requires.spec c.requires.some c.requires.places)

pub new-kept-requires-clause-made : goal.new-kept-requires-clause-made
new-kept-requires-clause-made g c =
    made_at g.J.Naming.specs c.args.spec.now c.args.shards c.loop-shard.shard c.args.dealer.now c.loop-shard.dealer c.in_ok-part.part c.in_ok-book.book c.keeper.result c.requires.parts c.loop-shard-test.true c.loop-shard.invariant.dealt c.in_ok-part.ensures
    c.in_ok-book.ensures.opened c.keeper.ensures.keeper
