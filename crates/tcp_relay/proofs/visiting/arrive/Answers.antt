use Rattle.tcp_relay.proofs.ConnectionLemmas.{fresh}
use Rattle.tcp_relay.proofs.visiting.arrive.Goals as goal

pub returns-clause-connection : goal.returns-clause-connection
returns-clause-connection g c =
    fresh g.W.Width.tables g.W.Width.shards c.args.rules.now.setup.now c.args.samples c.new.result c.args.rules.now.tables c.args.rules.now.shards c.new.ensures.stands c.new.ensures.given
