use Rattle.std.proofs.Common.{drop}
use Rattle.shard_settling.specs.Settled.{AreOfShards}
use Rattle.shard_settling.proofs.counts.strange_reference.Given as goal

-- where those that are left are of the shards, all are
abbrev pub invariant-loop-reference : goal.invariant-loop-reference
invariant-loop-reference g l = AreOfShards l.shards (drop l.reference-index l.refs) → AreOfShards l.shards l.refs
