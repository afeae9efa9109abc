use Rattle.std.proofs.Common.{◌∙◌, rules, sym, length}
use Rattle.tcp_relay.proofs.ServingLemmas.{all_served, tables_current, told_err, told_ok}
use Rattle.tcp_relay.specs.Accepting.{most_of}
use Rattle.tcp_relay.proofs.serving.serve_wide.Goals as goal

pub seat_workers-requires-clause-shards : goal.seat_workers-requires-clause-shards
seat_workers-requires-clause-shards g c = λ i table at. c.requires.tables.shards i table at ∙ sym c.requires.shards

pub seat_workers-requires-clause-current : goal.seat_workers-requires-clause-current
seat_workers-requires-clause-current g c = tables_current c.args.setup.now c.args.tables.now g.W.Width.current c.requires.tables c.requires.current

pub returns-clause-ok : goal.returns-clause-ok
returns-clause-ok g c =
    let is = all_served g.W.Width.tables (length c.args.tables.now) _ c.args.threads g.W.Width.most (most_of c.args.limits.connections c.args.threads) c.gather-served.result.0 c.gather-served.ensures.seats c.gather-served.ensures.refs c.requires.width (search rules) c.requires.most in
    told_ok (length c.args.tables.now) c.args.threads (most_of c.args.limits.connections c.args.threads) c.gather-served.result.0 is c.run_all-all_started.result c.gather-served.result.1 c.told.result c.told.ensures.ok

pub returns-clause-err : goal.returns-clause-err
returns-clause-err g c =
    let is = all_served g.W.Width.tables (length c.args.tables.now) _ c.args.threads g.W.Width.most (most_of c.args.limits.connections c.args.threads) c.gather-served.result.0 c.gather-served.ensures.seats c.gather-served.ensures.refs c.requires.width (search rules) c.requires.most in
    told_err (length c.args.tables.now) c.args.threads (most_of c.args.limits.connections c.args.threads) c.gather-served.result.0 is c.run_all-all_started.result c.gather-served.result.1 c.args.seats c.told.result c.told.ensures.fault
