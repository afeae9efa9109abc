use Rattle.std.proofs.Common.{◌≡◌, drop, []}
use Rattle.stickd_ctl.specs.Ranking.{ranked_on}
use Rattle.stickd_ctl.proofs.ranking.greatest.Given as goal

-- the rest goes on from those so far
abbrev pub invariant-loop-place : goal.invariant-loop-place
invariant-loop-place l = ranked_on l.most l.place (drop l.place l.values) l.ranked.items ≡ ranked_on l.most 0 l.values []
