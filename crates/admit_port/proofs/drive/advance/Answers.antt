use Rattle.std.proofs.Common.{◌∙◌, ap, sym, length, map, refl, None, is_some}
use Rattle.admit_core.specs.Conn.{judged_by, needed}
use Rattle.admit_core.specs.Connection.{refused, turned}
use Rattle.admit_port.proofs.AskLemmas.{moved_memory, moved_turned, ready_still}
use Rattle.admit_port.proofs.CommonLemmas.{memory_bare, wanted_memory}
use Rattle.admit_port.proofs.HearLemmas.{turned_holds, turned_left}
use Rattle.admit_port.proofs.drive.advance.Goals as goal

pub skip-requires-clause-no_release : goal.skip-requires-clause-no_release
skip-requires-clause-no_release g c =
    let setup = judged_by c.args.conn.now in
    let wanted = needed c.args.conn.now in
    memory_bare setup wanted (wanted_memory setup wanted c.want.result c.in_default.field-0 c.in_default.is c.want.ensures.memory)

pub returns-in_default-clause-ready : goal.returns-in_default-clause-ready
returns-in_default-clause-ready g c =
    ready_still g.P.Port.meaning g.P.Port.state c.args.moment c.args.ports.now c.args.conn.now c.requires.ready c.skip.new.conn (λ connection. refused connection None) (λ connection. refl) c.skip.ensures.stands c.skip.ensures.given (c.skip.ensures.held (length (map g.P.Port.state c.args.ports.now)) c.requires.ready.held)

pub returns-in_default-clause-moved : goal.returns-in_default-clause-moved
returns-in_default-clause-moved g c =
    let setup = judged_by c.args.conn.now in
    let wanted = needed c.args.conn.now in
    let takes = wanted_memory setup wanted c.want.result c.in_default.field-0 c.in_default.is c.want.ensures.memory in
    moved_memory g.P.Port.meaning g.P.Port.state c.args.moment c.args.ports.now c.args.conn.now c.requires.ready c.skip.new.conn (memory_bare setup wanted takes) takes c.skip.ensures.stands

pub returns-in-Turn-clause-ready : goal.returns-in-Turn-clause-ready
returns-in-Turn-clause-ready g c =
    ready_still g.P.Port.meaning g.P.Port.state c.args.moment c.args.ports.now c.args.conn.now c.requires.ready c.turn.new.self (λ connection. turned connection) (λ connection. refl) c.turn.ensures.stands (ap (λ p. is_some p.given) c.turn.ensures.progress ∙ c.requires.ready.given)
    (turned_holds c.args.conn.now c.turn.new.self (length (map g.P.Port.state c.args.ports.now)) c.turn.ensures.progress c.requires.ready.held)

pub returns-in-Turn-clause-moved : goal.returns-in-Turn-clause-moved
returns-in-Turn-clause-moved g c = moved_turned g.P.Port.meaning g.P.Port.state c.args.moment c.args.ports.now c.args.conn.now c.requires.ready c.turn.new.self (sym c.in-Ok.ensures.needed ∙ c.in-Turn.is) c.turn.ensures.stands

pub returns-in-Turn-clause-left : goal.returns-in-Turn-clause-left
returns-in-Turn-clause-left g c _ =
    turned_left c.args.conn.now c.turn.new.self c.requires.ready.given (sym c.in-Ok.ensures.needed ∙ c.in-Turn.is) c.turn.ensures.progress c.turn.ensures.rules

pub returns-in_default-clause-kept : goal.returns-in_default-clause-kept
returns-in_default-clause-kept g c kept = cc

pub returns-in-Turn-clause-kept : goal.returns-in-Turn-clause-kept
returns-in-Turn-clause-kept g c kept = cc

pub returns-in-Get-clause-kept : goal.returns-in-Get-clause-kept
returns-in-Get-clause-kept g c kept = absurd (c.ask.ensures.goes kept)

pub returns-in-Track-clause-kept : goal.returns-in-Track-clause-kept
returns-in-Track-clause-kept g c kept = absurd (c.track.ensures.goes kept)

pub returns-in-Look-clause-kept : goal.returns-in-Look-clause-kept
returns-in-Look-clause-kept g c kept = absurd (c.look.ensures.goes kept)

pub returns-in-Count-clause-kept : goal.returns-in-Count-clause-kept
returns-in-Count-clause-kept g c kept = absurd (c.count.ensures.goes kept)
