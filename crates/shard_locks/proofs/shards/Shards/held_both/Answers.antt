use Rattle.shard_locks.proofs.HoldingLemmas.{both_count, both_hold}
use Rattle.shard_locks.proofs.shards.Shards.held_both.Goals as goal

pub returns : goal.returns
returns g c = record { both = both_count c.args.self.now c.args.first c.args.second c.join.new.me c.join.ensures.both; passed = λ limit first second. both_hold c.args.self.now limit c.args.first c.args.second c.join.new.me first second c.join.ensures.both c.join.ensures.compared }
