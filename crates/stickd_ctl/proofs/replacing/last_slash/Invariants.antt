use Rattle.std.proofs.Common.{◌≡◌, ◌<◌, drop, IfSome}
use Rattle.stickd_ctl.specs.Replacing.{last_slash, slash_from}
use Rattle.stickd_ctl.proofs.replacing.last_slash.Given as goal

-- the rest goes on from the last slash so far, which stands before it
abbrev pub invariant-loop-place : goal.invariant-loop-place
invariant-loop-place l = record {
  slash : slash_from l.place l.last (drop l.place l.path) ≡ last_slash l.path;
  within : IfSome l.last (λ place. place < l.place);
}
