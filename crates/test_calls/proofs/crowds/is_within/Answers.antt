use Rattle.test_calls.proofs.CrowdLemmas.{looked_is}
use Rattle.test_calls.proofs.crowds.is_within.Goals as goal

pub returns-in-Ok-clause-passed : goal.returns-in-Ok-clause-passed
returns-in-Ok-clause-passed g c few tracked =
    looked_is c.args.table.now c.args.limit c.args.now c.args.reference.now c.in-Ok.row c.args.seat.now.known c.look.new.seat.known c.in-Ok.ensures.recorded few tracked
