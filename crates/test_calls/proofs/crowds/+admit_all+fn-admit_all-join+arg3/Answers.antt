use Rattle.shard_locks.proofs.HoldingLemmas.{holds_few}
use Rattle.test_calls.proofs.crowds.+admit_all+fn-admit_all-join+arg3.Goals as goal

pub returns-in_default-clause-limit : goal.returns-in_default-clause-limit
returns-in_default-clause-limit g t c = holds_few c.args.table.now c.args.limit c.admit_one.result.held c.admit_one.ensures.passed

pub returns-clause-limit : goal.returns-clause-limit
returns-clause-limit g t c = holds_few c.args.table.now c.args.limit c.both.result.held c.both.ensures.passed
