use Rattle.std.proofs.Common.{rules}
use Rattle.stick_pooled.proofs.Threads.{stick_table_send}
use Rattle.bench_table.proofs.crowd.run_crowds.Goals as goal

pub are_kept-requires-send-T : goal.are_kept-requires-send-T
are_kept-requires-send-T g c κs = search (rules, stick_table_send)
