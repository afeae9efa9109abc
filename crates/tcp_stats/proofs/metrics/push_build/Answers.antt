use Rattle.tcp_stats.specs.Metrics.{build_text}
use Rattle.tcp_stats.proofs.Joins.{joined}
use Rattle.tcp_stats.proofs.metrics.push_build.Goals as goal

pub returns : goal.returns
unfolding build_text
returns c = joined _ _ _ c.in_ok-push_head.ensures c.in_ok-push_labelled.ensures
