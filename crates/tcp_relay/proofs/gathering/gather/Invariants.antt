use Rattle.std.proofs.Common.{◌≡◌, ◌≤◌, ◌-◌, ◌*◌, length, vec_len}
use Rattle.tcp_relay.specs.Seating.{HaveEach, HaveFew}
use Rattle.tcp_relay.proofs.gathering.gather.Given as goal

-- each table has the seats of the workers that have ended, and at most three references of each of their connections
abbrev pub invariant-loop-worker : goal.invariant-loop-worker
invariant-loop-worker g l = record {
  left : vec_len l.workers ≤ length l.fn.workers.items;
  tables : (length l.seats.items ≡ g.W.Width.tables) × (length l.refs.items ≡ g.W.Width.tables);
  seats : HaveEach (length l.fn.workers.items - vec_len l.workers) (length l.fn.workers.items) l.seats.items;
  refs : HaveFew ((length l.fn.workers.items - vec_len l.workers) * (g.W.Width.most * 3)) (length l.fn.workers.items * (g.W.Width.most * 3)) l.refs.items;
}

abbrev pub decreases-loop-worker : goal.decreases-loop-worker
decreases-loop-worker g l = vec_len l.workers
