use Rattle.std.proofs.Common.{◌∙◌, refl, sym, subst, map}
use Rattle.admit_port.specs.DriveCode.{HasMoved}
use Rattle.admit_port.proofs.VisitLemmas.{connection_after, judged_goes, judged_more, judged_none, never_kept}
use Rattle.admit_port.proofs.visit.judge.Goals as goal

pub loop-alloc-init : goal.loop-alloc-init
loop-alloc-init g c = record {
  living = c.requires.living;
  ready = c.requires.ready;
  gone = judged_none g.P.Port.meaning g.C.Clock.shows (map g.P.Port.state c.args.ports.now) c.args.conn.now (g.C.Clock.state c.args.clock.now);
  parts = refl;
}

pub move_once-requires-clause-wants : goal.move_once-requires-clause-wants
move_once-requires-clause-wants g c = judged_goes c.loop-alloc.conn c.loop-alloc.invariant.ready.given (sym c.is_judged.ensures ∙ c.loop-alloc-test.true)

pub unreachable-requires : goal.unreachable-requires
unreachable-requires g c =
    let loop = c.loop-alloc in
    let port = g.P.Port.state in
    let once = c.move_once in
    let moves = once.ensures.moved in
    never_kept g.P.Port.meaning moves.0 (map port loop.ports) (map port once.new.ports) loop.conn once.new.conn loop.invariant.living loop.invariant.ready (sym c.is_judged.ensures ∙ c.loop-alloc-test.true)
    (subst (λ moved. HasMoved g.P.Port.meaning moves.0 (map port loop.ports) loop.conn (map port once.new.ports) once.new.conn moved) c.in-Kept.is moves.3)

pub loop-alloc-preserved : goal.loop-alloc-preserved
loop-alloc-preserved g c =
    let loop = c.loop-alloc in
    let port = g.P.Port.state in
    let state = g.C.Clock.state in
    let once = c.move_once in
    let moves = once.ensures.moved in
    record {
      living = connection_after g.P.Port.meaning moves.0 (map port loop.ports) (map port once.new.ports) loop.conn once.new.conn once.result moves.3 loop.invariant.living;
      ready = once.ensures.ready loop.invariant.living;
      gone = judged_more g.P.Port.meaning g.C.Clock.shows (map port c.args.ports.now) (map port loop.ports) (map port once.new.ports) c.args.conn.now loop.conn once.new.conn (state c.args.clock.now) (state loop.clock) (state once.new.clock) once.result
          loop.invariant.living loop.invariant.ready (sym c.is_judged.ensures ∙ c.loop-alloc-test.true) loop.invariant.gone once.ensures.moved;
      parts = once.ensures.parts ∙ loop.invariant.parts;
    }
