use Rattle.std.proofs.Common.{◌≡◌, ◌<◌, drop, IfSome}
use Rattle.stickd_ctl.specs.Progressing.{last_end, last_end_from}
use Rattle.stickd_ctl.proofs.listed.last_end.Given as goal

-- the rest goes on from the last line end so far, which stands before it
abbrev pub invariant-loop-place : goal.invariant-loop-place
invariant-loop-place l = record {
  end : last_end_from l.place l.last (drop l.place l.text) ≡ last_end l.text;
  within : IfSome l.last (λ place. place < l.place);
}
