use Rattle.std.proofs.Common.{rules}
use Rattle.stick_pooled.proofs.Threads.{stick_table_send}
use Rattle.bench_table.proofs.stress.rounds.run_planned.Goals as goal

pub run_round-requires-send-T : goal.run_round-requires-send-T
run_round-requires-send-T g c κs = search (rules, stick_table_send)
