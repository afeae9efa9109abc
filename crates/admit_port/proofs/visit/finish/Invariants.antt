use Rattle.std.proofs.Common.{◌≡◌, map}
use Rattle.admit_port.specs.DriveCode.{CanGoOn, IsConnection, moves_left}
use Rattle.admit_port.specs.Ports.{parts_of}
use Rattle.admit_port.specs.Visit.{HasGone}
use Rattle.admit_port.proofs.visit.finish.Given as goal

-- it has gone on so far, and can go on
abbrev pub invariant-loop-alloc : goal.invariant-loop-alloc
invariant-loop-alloc g l = record {
  living : IsConnection l.conn;
  ready : CanGoOn g.P.Port.meaning (map g.P.Port.state l.ports) l.conn;
  gone : HasGone g.P.Port.meaning g.C.Clock.shows (map g.P.Port.state l.fn.ports) l.fn.conn (g.C.Clock.state l.fn.clock) (map g.P.Port.state l.ports) l.conn (g.C.Clock.state l.clock);
  parts : parts_of g.P.Port.meaning.parts (map g.P.Port.state l.ports) ≡ parts_of g.P.Port.meaning.parts (map g.P.Port.state l.fn.ports);
}

abbrev pub decreases-loop-alloc : goal.decreases-loop-alloc
decreases-loop-alloc g l = moves_left l.conn
