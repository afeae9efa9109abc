use Rattle.shard_port.proofs.AskLemmas.{legal}
use Rattle.shard_port.proofs.books.ask_shard.Goals as goal

pub returns-clause-legal : goal.returns-clause-legal
returns-clause-legal g c = legal c.call.result c.args.named.now c.args.shard c.args.event c.call.new.self c.call.ensures.ok c.call.ensures.before
