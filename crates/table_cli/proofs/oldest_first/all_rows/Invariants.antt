use Rattle.std.proofs.Common.{◌≡◌, ◌≤◌}
use Rattle.table_cli.specs.OldestFirst.{ShowFirst}
use Rattle.table_cli.proofs.oldest_first.all_rows.Given as goal

-- the shards so far show these rows
abbrev pub invariant-loop-shard : goal.invariant-loop-shard
invariant-loop-shard g l =
    let K = g.K.Keeper in
    record {
      shown : ShowFirst K.holds l.moment (K.state l.keeper) l.shard l.rows.items;
      within : l.shard ≤ K.parts l.keeper;
      end : l.shard-end ≡ K.parts l.keeper;
    }
