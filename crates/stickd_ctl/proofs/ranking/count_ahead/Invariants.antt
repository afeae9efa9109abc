use Rattle.std.proofs.Common.{◌≡◌, ◌+◌, drop}
use Rattle.stickd_ctl.specs.Ranking.{ahead}
use Rattle.stickd_ctl.proofs.ranking.count_ahead.Given as goal

-- all so far are at least as great
abbrev pub invariant-loop-place : goal.invariant-loop-place
invariant-loop-place l = l.place + ahead l.value (drop l.place l.ranked) ≡ ahead l.value l.ranked
