use Rattle.std.proofs.Common.{arith}
use Rattle.rule_addresses.proofs.PortLemmas.{last_colon, no_colon}
use Rattle.rule_addresses.proofs.endpoint.split_port.Goals as goal

pub returns-then-text-at-eq58 : goal.returns-then-text-at-eq58
returns-then-text-at-eq58 c = last_colon c.args.text.now c.loop-at.at c.loop-at-test.true c.loop-at.auto.at c.if-text-at-eq58.true c.loop-at.invariant

pub returns : goal.returns
returns c = no_colon c.args.text.now (λ k inside. c.loop-at.invariant k (omega arith) inside)
