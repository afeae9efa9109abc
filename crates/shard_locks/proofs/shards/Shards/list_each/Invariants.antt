use Rattle.std.proofs.Common.{◌≡◌, ◌≤◌, vec_len, vec_capacity}
use Rattle.stick_model.specs.declared.events.Event.TheVariants.{List as ListRows}
use Rattle.shard_locks.specs.Listing.{ToldByFirst}
use Rattle.shard_locks.proofs.shards.Shards.list_each.Given as goal

-- the first shards told the seat their replies
abbrev pub invariant-loop-shard : goal.invariant-loop-shard
invariant-loop-shard g l = record {
  told : ToldByFirst l.shard l.fn.seat.seat (ListRows l.now l.filter) l.replies.items l.seat.seat;
  used : vec_len l.replies ≡ l.shard;
  room : l.shards ≤ vec_capacity l.replies;
}
