use Rattle.std.proofs.Common.{◌≡◌, ◌++◌, drop}
use Rattle.std.specs.List.{filter_map}
use Rattle.rule_warnings.specs.Warnings.{limit_warning}
use Rattle.rule_warnings.proofs.warnings.and_limits.Given as goal

-- those so far, and those of the tables that are left
abbrev pub invariant-loop-named : goal.invariant-loop-named
invariant-loop-named l =
    l.all ++ filter_map (limit_warning l.connections l.setup l.slot) (drop l.named-index l.tables) ≡ l.fn.warnings ++ filter_map (limit_warning l.connections l.setup l.slot) l.tables
