use Rattle.std.proofs.Common.{◌≡◌, ◌≤◌, length, take}
use Rattle.admit_world.proofs.ScheduleLemmas.{HasRun}
use Rattle.admit_world.proofs.world.World.run.Given as goal

-- the schedule was gone through so far
abbrev pub invariant-loop-number : goal.invariant-loop-number
invariant-loop-number g l = record {
  few : l.refused ≤ l.number-index;
  setup : l.self.setup ≡ l.fn.self.setup;
  count : length l.self.visitors ≡ length l.fn.self.visitors;
  ran : HasRun l.fn.self (take l.number-index l.schedule) l.self l.refused;
}
