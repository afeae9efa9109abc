use Rattle.std.proofs.Common.{◌≤◌}
use Rattle.std.specs.Prelude.{IfSome}
use Rattle.stickd.proofs.socket_words.split_stats.Given as goal

-- the permissions are some, up to 0777, or aren't said yet
abbrev pub invariant-loop : goal.invariant-loop
invariant-loop l = IfSome l.options.mode (λ mode. mode ≤ 511)
