use Rattle.std.proofs.Common.{◌≡◌, ◌++◌, take, drop, []}
use Rattle.rule_warnings.specs.NoEffect.{warnings_behind}
use Rattle.rule_warnings.proofs.no_effect.and_rules.Given as goal

-- those of the rules so far, and those of the rules that are left
abbrev pub invariant-loop-place : goal.invariant-loop-place
invariant-loop-place l =
    l.all ++ warnings_behind l.takes_ipv6 l.setup (take l.place l.rules) (drop l.place l.rules) ≡ l.fn.warnings ++ warnings_behind l.takes_ipv6 l.setup [] l.rules
