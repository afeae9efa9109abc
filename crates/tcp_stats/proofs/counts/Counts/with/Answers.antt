use Rattle.std.proofs.Common.{rules, arith, slice_index}
use Rattle.tcp_stats.specs.CountValues.{capped_sum}
use Rattle.tcp_stats.proofs.Places.{written_below, kept_behind}
use Rattle.tcp_stats.proofs.counts.Counts.with.Goals as goal

pub loop-place-preserved : goal.loop-place-preserved
loop-place-preserved c = record {
  places = search rules;
  summed = written_below _ _ _ (λ k. capped_sum (slice_index c.args.self.now.values k) (slice_index c.args.other.now.values k)) (omega (arith, c.loop-place.invariant.places, c.loop-place-test.true)) (search rules) c.loop-place.invariant.summed;
  kept = kept_behind _ _ _ (λ k. slice_index c.args.self.now.values k) c.loop-place.invariant.kept;
}
