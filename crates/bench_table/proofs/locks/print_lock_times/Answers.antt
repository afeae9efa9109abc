use Rattle.std.proofs.Common.{rules}
use Rattle.stick_pooled.proofs.Threads.{stick_table_send}
use Rattle.bench_table.proofs.locks.print_lock_times.Goals as goal

pub print_all-requires-send-T : goal.print_all-requires-send-T
print_all-requires-send-T g c κs = search (rules, stick_table_send)
