use Rattle.std.proofs.Common.{◌∙◌, ◌++◌, drop, length, subst, sym, take}
use Rattle.std.specs.Vec.{vec_len}
use Rattle.tcp_relay.specs.Moments.{HaveCalledAt}
use Rattle.admit_core.specs.Conn.{progress_of}
use Rattle.tcp_relay.specs.Releasing.{GivesBack}
use Rattle.tcp_relay.proofs.ConnectionLemmas.{back_still, called_still, each_still, lent_store, ports_of, ready, still_passed, stored_still, visitor_still}
use Rattle.tcp_relay.proofs.MomentGoes.{rested_called}
use Rattle.tcp_relay.proofs.PassedStays.{rests_keep, rests_store}
use Rattle.tcp_relay.proofs.ReleasingGoes.{rested_back}
use Rattle.tcp_relay.proofs.visiting.leave.Goals as goal

pub finish-rested-requires-clause-ready : goal.finish-rested-requires-clause-ready
finish-rested-requires-clause-ready g c =
    let lent = c.as_mut_slice-ports in
    ready g.W.Width.tables g.W.Width.shards c.args.seated.now lent.result.now lent.ensures.value lent.ensures.len c.requires.count c.requires.shards c.args.conn.now c.requires.connection

pub returns-clause-shards : goal.returns-clause-shards
returns-clause-shards g c =
    let lent = c.as_mut_slice-ports in
    let rested = c.finish-rested in
    each_still g.W.Width.tables g.W.Width.shards c.args.seated.now lent.result.now lent.ensures.value lent.ensures.len c.requires.count c.requires.shards rested.new.ports rested.ensures.parts

pub returns-clause-current : goal.returns-clause-current
returns-clause-current g c =
    let lent = c.as_mut_slice-ports in
    let rested = c.finish-rested in
    stored_still g.W.Width.tables g.W.Width.shards c.args.seated.now lent.result.now lent.ensures.value lent.ensures.len c.requires.count c.requires.shards rested.new.ports rested.ensures.parts g.W.Width.current
    (rests_store _ (ports_of lent.result.now) (ports_of rested.new.ports) c.args.conn.now rested.new.conn _ _ rested.result g.W.Width.current c.requires.connection.living rested.ensures.rested
    (lent_store g.W.Width.tables g.W.Width.shards c.args.seated.now lent.result.now lent.ensures.value lent.ensures.len c.requires.count c.requires.shards g.W.Width.current c.requires.current))

pub returns-clause-connection : goal.returns-clause-connection
returns-clause-connection g c =
    let lent = c.as_mut_slice-ports in
    let rested = c.finish-rested in
    visitor_still g.W.Width.tables g.W.Width.shards c.args.seated.now lent.result.now lent.ensures.value lent.ensures.len c.requires.count c.requires.shards rested.new.ports rested.ensures.parts rested.new.conn rested.ensures.living rested.ensures.ready

pub returns-clause-moment : goal.returns-clause-moment
returns-clause-moment g c connection stands =
    let lent = c.as_mut_slice-ports in
    let rested = c.finish-rested in
    subst (λ now. HaveCalledAt now c.args.seated.now.items (take (vec_len c.args.seated.now) (rested.new.ports ++ drop (length rested.new.ports) c.args.seated.now.items))) (c.at-stopped.ensures ∙ sym c.now.ensures.shows.1)
    (called_still g.W.Width.tables g.W.Width.shards c.args.seated.now lent.result.now lent.ensures.value lent.ensures.len c.requires.count c.requires.shards rested.new.ports rested.ensures.parts _
    (rested_called (ports_of lent.result.now) (ports_of rested.new.ports) c.args.conn.now rested.new.conn _ _ rested.result connection stands rested.ensures.rested))

pub returns-clause-still : goal.returns-clause-still
returns-clause-still g c =
    let lent = c.as_mut_slice-ports in
    let rested = c.finish-rested in
    still_passed g.W.Width.tables g.W.Width.shards c.args.seated.now lent.result.now lent.ensures.value lent.ensures.len c.requires.count c.requires.shards rested.new.ports rested.ensures.parts
    (rests_keep _ (ports_of lent.result.now) (ports_of rested.new.ports) c.args.conn.now rested.new.conn _ _ rested.result c.requires.connection.living rested.ensures.rested)

pub returns-clause-back : goal.returns-clause-back
returns-clause-back g c =
    let lent = c.as_mut_slice-ports in
    let rested = c.finish-rested in
    subst (λ now. GivesBack now c.args.seated.now.items (take (vec_len c.args.seated.now) (rested.new.ports ++ drop (length rested.new.ports) c.args.seated.now.items)) (progress_of c.args.conn.now).held (progress_of rested.new.conn).held)
    (c.at-stopped.ensures ∙ sym c.now.ensures.shows.1)
    (back_still g.W.Width.tables g.W.Width.shards c.args.seated.now lent.result.now lent.ensures.value lent.ensures.len c.requires.count c.requires.shards rested.new.ports rested.ensures.parts _ _ _
    (rested_back (ports_of lent.result.now) (ports_of rested.new.ports) c.args.conn.now rested.new.conn _ _ rested.result c.requires.connection.living c.requires.ending c.requires.connection.given rested.ensures.rested))
