use Rattle.std.proofs.Common.{◌∙◌, refl, sym, subst, map}
use Rattle.admit_port.specs.Visit.{HasMovedOnce}
use Rattle.admit_port.proofs.VisitLemmas.{connection_after, gone_kept, gone_more, gone_none, gone_to_rest}
use Rattle.admit_port.proofs.visit.finish.Goals as goal

pub loop-alloc-init : goal.loop-alloc-init
loop-alloc-init g c = record {
  living = c.requires.living;
  ready = c.requires.ready;
  gone = gone_none g.P.Port.meaning g.C.Clock.shows (map g.P.Port.state c.args.ports.now) c.args.conn.now (g.C.Clock.state c.args.clock.now);
  parts = refl;
}

pub returns-in-Kept-clause-living : goal.returns-in-Kept-clause-living
returns-in-Kept-clause-living g c =
    let loop = c.loop-alloc in
    let once = c.move_once in
    let moves = once.ensures.moved in
    connection_after g.P.Port.meaning moves.0 (map g.P.Port.state loop.ports) (map g.P.Port.state once.new.ports) loop.conn once.new.conn once.result moves.3 loop.invariant.living

pub returns-in-Kept-clause-rested : goal.returns-in-Kept-clause-rested
returns-in-Kept-clause-rested g c =
    let loop = c.loop-alloc in
    let port = g.P.Port.state in
    let state = g.C.Clock.state in
    let once = c.move_once in
    gone_kept g.P.Port.meaning g.C.Clock.shows (map port c.args.ports.now) (map port loop.ports) (map port once.new.ports) c.args.conn.now loop.conn once.new.conn (state c.args.clock.now) (state loop.clock) (state once.new.clock) loop.invariant.gone
    (subst (λ moved. HasMovedOnce g.P.Port.meaning g.C.Clock.shows (map port loop.ports) loop.conn (state loop.clock) (map port once.new.ports) once.new.conn (state once.new.clock) moved) c.in-Kept.is once.ensures.moved)

pub loop-alloc-preserved : goal.loop-alloc-preserved
loop-alloc-preserved g c =
    let loop = c.loop-alloc in
    let port = g.P.Port.state in
    let state = g.C.Clock.state in
    let once = c.move_once in
    let moves = once.ensures.moved in
    record {
      living = connection_after g.P.Port.meaning moves.0 (map port loop.ports) (map port once.new.ports) loop.conn once.new.conn once.result moves.3 loop.invariant.living;
      ready = once.ensures.ready loop.invariant.living;
      gone = gone_more g.P.Port.meaning g.C.Clock.shows (map port c.args.ports.now) (map port loop.ports) (map port once.new.ports) c.args.conn.now loop.conn once.new.conn (state c.args.clock.now) (state loop.clock) (state once.new.clock) once.result loop.invariant.gone once.ensures.moved;
      parts = once.ensures.parts ∙ loop.invariant.parts;
    }

pub returns-clause-rested : goal.returns-clause-rested
returns-clause-rested g c =
    let loop = c.loop-alloc in
    let port = g.P.Port.state in
    let state = g.C.Clock.state in
    gone_to_rest g.P.Port.meaning g.C.Clock.shows (map port c.args.ports.now) (map port loop.ports) c.args.conn.now loop.conn (state c.args.clock.now) (state loop.clock) (sym c.is_still.ensures ∙ c.loop-alloc-test.false) loop.invariant.gone

pub returns-in-Kept-clause-parts : goal.returns-in-Kept-clause-parts
returns-in-Kept-clause-parts g c = c.move_once.ensures.parts ∙ c.loop-alloc.invariant.parts
