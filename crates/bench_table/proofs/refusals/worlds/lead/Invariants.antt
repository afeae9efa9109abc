use Rattle.std.proofs.Common.{◌≡◌, length}
use Rattle.bench_table.proofs.refusals.worlds.lead.Given as goal

-- four connections on one table in one shard, as far as the schedule went
abbrev pub invariant-loop-place : goal.invariant-loop-place
invariant-loop-place g l = (length l.world.visitors ≡ 4) × (length l.world.setup.tables ≡ 1) × (l.world.setup.shards ≡ 1)
