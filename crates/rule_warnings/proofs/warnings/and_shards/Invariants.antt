use Rattle.std.proofs.Common.{◌≡◌, ◌++◌, drop}
use Rattle.std.specs.List.{filter_map}
use Rattle.rule_warnings.specs.Warnings.{shard_warning}
use Rattle.rule_warnings.proofs.warnings.and_shards.Given as goal

-- those so far, and those of the tables that are left
abbrev pub invariant-loop-named : goal.invariant-loop-named
invariant-loop-named l =
    l.all ++ filter_map (shard_warning l.shards) (drop l.named-index l.tables) ≡ l.fn.warnings ++ filter_map (shard_warning l.shards) l.tables
