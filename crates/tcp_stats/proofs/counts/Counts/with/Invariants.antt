use Rattle.std.proofs.Common.{◌≡◌, ℕ, ◌<◌, ◌≤◌, length, slice_index}
use Rattle.tcp_stats.specs.CountValues.{capped_sum}
use Rattle.tcp_stats.proofs.counts.Counts.with.Given as goal

abbrev pub invariant-loop-place : goal.invariant-loop-place
invariant-loop-place l = record {
  places : length l.sums.values ≡ 33;
  summed : (k : ℕ) → k < l.place → slice_index l.sums.values k ≡ capped_sum (slice_index l.self.values k) (slice_index l.other.values k);
  kept : (k : ℕ) → l.place ≤ k → slice_index l.sums.values k ≡ slice_index l.self.values k;
}
