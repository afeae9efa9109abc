use Rattle.std.proofs.Common.{◌≡◌}
use Rattle.tcp_relay.specs.Arrivals.{samples_by}
use Rattle.tcp_relay.proofs.opening.carry.Goals as goal

pub invariant_of-worker-clause-passed : goal.invariant_of-worker-clause-passed
invariant_of-worker-clause-passed g c =
    let rules = c.args.event_loop.now.rules in
    c.put_open.ensures.passed g.W.Width.setup c.args.worker.now.seated.items ∣ (rules.setup.now, rules.version, samples_by c.args.arrival.told c.args.arrival.accepted.peer c.args.arrival.accepted.port, c.requires.passed) ∣₁ c.args.worker.now.passed
