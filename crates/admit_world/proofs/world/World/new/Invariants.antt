use Rattle.std.proofs.Common.{map, take}
use Rattle.admit_world.specs.WorldCode.{AreVisitors}
use Rattle.admit_world.proofs.ScheduleLemmas.{come}
use Rattle.admit_world.proofs.world.World.new.Given as goal

-- a connection has come for each visit so far
abbrev pub invariant-loop-visit : goal.invariant-loop-visit
invariant-loop-visit g l = AreVisitors l.visitors.items (take l.visit-index l.visits) (map (come l.setup) (take l.visit-index l.visits))
