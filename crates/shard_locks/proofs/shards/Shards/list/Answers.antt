use Rattle.std.proofs.Common.{arith}
use Rattle.stick_model.specs.declared.events.Event.TheVariants.{List as ListRows}
use Rattle.shard_locks.proofs.ListingLemmas.{joined_listing, told_as_many, told_by_counted}
use Rattle.shard_locks.proofs.shards.Shards.list.Goals as goal

pub joined-requires-clause-few : goal.joined-requires-clause-few
joined-requires-clause-few g c =
    omega (arith, c.shards-shards.ensures.shards, c.shards-shards.ensures.few, told_as_many c.args.self.now.shards c.args.seat.now.seat c.list_each.new.seat.seat (ListRows c.args.now c.args.filter.now) c.in-Ok.replies.items c.in-Ok.ensures.told)

pub joined-requires-clause-counted : goal.joined-requires-clause-counted
joined-requires-clause-counted g c = told_by_counted c.args.self.now.shards c.args.seat.now.seat c.list_each.new.seat.seat c.args.now c.args.filter.now c.in-Ok.replies.items c.in-Ok.ensures.told

pub listing_of-requires : goal.listing_of-requires
listing_of-requires g c =
    joined_listing c.args.self.now.shards c.args.seat.now.seat c.list_each.new.seat.seat c.args.now c.args.filter.now c.in-Ok.replies.items c.in-Ok-joined.reply (omega (arith, c.shards-shards.ensures.shards, c.shards-shards.ensures.some))
    c.in-Ok.ensures.told c.in-Ok-joined.ensures
