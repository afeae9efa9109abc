use Rattle.std.proofs.Common.{◌∙◌, ◌++◌, drop, length, subst, sym, take}
use Rattle.std.specs.Vec.{vec_len}
use Rattle.tcp_relay.specs.Moments.{HaveCalledAt}
use Rattle.tcp_relay.proofs.ConnectionLemmas.{called_still, each_still, lent_store, passed_still, ports_of, ready, still_passed, stored_still, untracked_still, visitor_still}
use Rattle.tcp_relay.proofs.EndingGoes.{judged_ends}
use Rattle.tcp_relay.proofs.MomentGoes.{judged_called}
use Rattle.tcp_relay.proofs.PassedGoes.{judged_passed}
use Rattle.tcp_relay.proofs.PassedOf.{judged_of}
use Rattle.tcp_relay.proofs.PassedStays.{judged_keep, judged_stores}
use Rattle.tcp_relay.proofs.UntrackedGoes.{judged_untracked}
use Rattle.tcp_relay.proofs.visiting.judge_one.Goals as goal

pub judge-is_admitted-requires-clause-ready : goal.judge-is_admitted-requires-clause-ready
judge-is_admitted-requires-clause-ready g c =
    let lent = c.as_mut_slice-ports in
    ready g.W.Width.tables g.W.Width.shards c.args.seated.now lent.result.now lent.ensures.value lent.ensures.len c.requires.count c.requires.shards c.args.conn.now c.requires.connection

pub returns-clause-shards : goal.returns-clause-shards
returns-clause-shards g c =
    let lent = c.as_mut_slice-ports in
    let judged = c.judge-is_admitted in
    each_still g.W.Width.tables g.W.Width.shards c.args.seated.now lent.result.now lent.ensures.value lent.ensures.len c.requires.count c.requires.shards judged.new.ports judged.ensures.parts

pub returns-clause-current : goal.returns-clause-current
returns-clause-current g c =
    let lent = c.as_mut_slice-ports in
    let judged = c.judge-is_admitted in
    stored_still g.W.Width.tables g.W.Width.shards c.args.seated.now lent.result.now lent.ensures.value lent.ensures.len c.requires.count c.requires.shards judged.new.ports judged.ensures.parts g.W.Width.current
    (judged_stores _ (ports_of lent.result.now) (ports_of judged.new.ports) c.args.conn.now judged.new.conn _ _ g.W.Width.current c.requires.connection.living judged.ensures.gone
    (lent_store g.W.Width.tables g.W.Width.shards c.args.seated.now lent.result.now lent.ensures.value lent.ensures.len c.requires.count c.requires.shards g.W.Width.current c.requires.current))

pub returns-clause-connection : goal.returns-clause-connection
returns-clause-connection g c =
    let lent = c.as_mut_slice-ports in
    let judged = c.judge-is_admitted in
    visitor_still g.W.Width.tables g.W.Width.shards c.args.seated.now lent.result.now lent.ensures.value lent.ensures.len c.requires.count c.requires.shards judged.new.ports judged.ensures.parts judged.new.conn judged.ensures.living judged.ensures.ready

pub returns-clause-of : goal.returns-clause-of
returns-clause-of g c setup samples stands =
    let lent = c.as_mut_slice-ports in
    let judged = c.judge-is_admitted in
    judged_of _ setup samples (ports_of lent.result.now) (ports_of judged.new.ports) c.args.conn.now judged.new.conn _ _ stands judged.ensures.gone

pub returns-clause-passed : goal.returns-clause-passed
returns-clause-passed g c setup samples stores stands admitted =
    let lent = c.as_mut_slice-ports in
    let judged = c.judge-is_admitted in
    passed_still g.W.Width.tables g.W.Width.shards c.args.seated.now lent.result.now lent.ensures.value lent.ensures.len c.requires.count c.requires.shards judged.new.ports judged.ensures.parts setup samples judged.new.conn
    (judged_passed _ setup samples (ports_of lent.result.now) (ports_of judged.new.ports) c.args.conn.now judged.new.conn _ _ g.W.Width.current stores
    (lent_store g.W.Width.tables g.W.Width.shards c.args.seated.now lent.result.now lent.ensures.value lent.ensures.len c.requires.count c.requires.shards g.W.Width.current c.requires.current) stands judged.ensures.gone judged.ensures.judged (judged.ensures.rests (judged.ensures.admitted ∙ sym c.of.ensures.exact ∙ admitted)))

pub returns-clause-untracked : goal.returns-clause-untracked
returns-clause-untracked g c setup samples stands admitted =
    let lent = c.as_mut_slice-ports in
    let judged = c.judge-is_admitted in
    untracked_still g.W.Width.tables g.W.Width.shards c.args.seated.now lent.result.now lent.ensures.value lent.ensures.len c.requires.count c.requires.shards judged.new.ports judged.ensures.parts setup samples judged.new.conn
    (judged_untracked _ setup samples (ports_of lent.result.now) (ports_of judged.new.ports) c.args.conn.now judged.new.conn _ _ stands judged.ensures.gone judged.ensures.judged (judged.ensures.rests (judged.ensures.admitted ∙ sym c.of.ensures.exact ∙ admitted)))

pub returns-clause-moment : goal.returns-clause-moment
returns-clause-moment g c connection stands =
    let lent = c.as_mut_slice-ports in
    let judged = c.judge-is_admitted in
    subst (λ now. HaveCalledAt now c.args.seated.now.items (take (vec_len c.args.seated.now) (judged.new.ports ++ drop (length judged.new.ports) c.args.seated.now.items))) (c.at-stopped.ensures ∙ sym c.now.ensures.shows.1)
    (called_still g.W.Width.tables g.W.Width.shards c.args.seated.now lent.result.now lent.ensures.value lent.ensures.len c.requires.count c.requires.shards judged.new.ports judged.ensures.parts _
    (judged_called (ports_of lent.result.now) (ports_of judged.new.ports) c.args.conn.now judged.new.conn _ _ connection stands judged.ensures.gone))

pub returns-clause-still : goal.returns-clause-still
returns-clause-still g c =
    let lent = c.as_mut_slice-ports in
    let judged = c.judge-is_admitted in
    still_passed g.W.Width.tables g.W.Width.shards c.args.seated.now lent.result.now lent.ensures.value lent.ensures.len c.requires.count c.requires.shards judged.new.ports judged.ensures.parts
    (judged_keep _ (ports_of lent.result.now) (ports_of judged.new.ports) c.args.conn.now judged.new.conn _ _ c.requires.connection.living judged.ensures.gone)

pub returns-clause-ending : goal.returns-clause-ending
returns-clause-ending g c setup samples stands rejected =
    let lent = c.as_mut_slice-ports in
    let judged = c.judge-is_admitted in
    judged_ends _ setup samples (ports_of lent.result.now) (ports_of judged.new.ports) c.args.conn.now judged.new.conn _ _ stands judged.ensures.gone judged.ensures.judged (sym c.of.ensures.exact ∙ rejected)
