use Rattle.shard_settling.proofs.SeatsLemmas.{made_iff}
use Rattle.shard_settling.proofs.counts.adds_up.Goals as goal

pub returns : goal.returns
returns g c = made_iff c.is_sum.result c.args.count c.args.seats.now c.args.shard c.is_sum.ensures
