use Rattle.std.proofs.Common.{◌≡◌, drop, IsSome}
use Rattle.stick_pooled.specs.Stock.{held_at, with_values}
use Rattle.stick_model.specs.Step.{put_pairs}
use Rattle.stick_pooled.proofs.pairs.put_pairs.Given as goal

-- What is left to be put gives what all gives.
abbrev pub invariant-loop-pair : goal.invariant-loop-pair
invariant-loop-pair l = record {
  there : IsSome (held_at l.store l.slot);
  left : with_values l.store l.slot (put_pairs (drop l.pair-index l.pairs)) ≡ with_values l.fn.store l.slot (put_pairs l.pairs);
}
