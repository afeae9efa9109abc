use Rattle.std.proofs.Common.{◌≡◌, true, is_some, ap, subst, Some}
use Rattle.tcp_relay.specs.Passed.{HasPassedAs}
use Rattle.tcp_relay.proofs.UntrackedGoes.{untracked_for}
use Rattle.tcp_relay.proofs.turning.take_in.Goals as goal

pub carry-requires-clause-passed : goal.carry-requires-clause-passed
carry-requires-clause-passed g c _ _ =
    let judged = c.judge_one-admitted in
    let samples = c.samples-samples.result in
    let stands = c.arrive-conn.ensures.stands in
    let sign : judged.result ≡ Some c.in-Some.admitted = cc (c.in-Some.is) in
    let admitted : is_some judged.result ≡ true = ap is_some sign in
    let rules = c.follow.new.self in
    let setup = rules.setup.now in
    subst (λ came. HasPassedAs setup came judged.new.seated.items judged.new.conn) c.samples-samples.ensures.told
    (judged.ensures.of setup samples stands, judged.ensures.passed setup samples rules.current stands admitted, untracked_for setup samples c.args.worker.now.seated.items judged.new.seated.items judged.new.conn (judged.ensures.untracked setup samples stands admitted))
