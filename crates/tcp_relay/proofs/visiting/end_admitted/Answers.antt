use Rattle.std.proofs.Common.{subst, slice_get}
use Rattle.tcp_relay.specs.Releasing.{GivesBack, held_there}
use Rattle.tcp_relay.proofs.visiting.end_admitted.Goals as goal

pub returns-clause-back : goal.returns-clause-back
returns-clause-back g c =
    let ends = c.end_at in
    subst (λ held. GivesBack ends.new.clock c.args.worker.now.seated.items ends.new.worker.seated.items held (held_there (λ one. one.conn) (slice_get ends.new.worker.places.held.items c.args.place)))
    c.closed-conn.ensures.held ends.ensures.back
