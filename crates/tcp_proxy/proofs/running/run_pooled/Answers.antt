use Rattle.std.proofs.Common.{rules}
use Rattle.stick_pooled.proofs.Threads.{stick_table_send}
use Rattle.tcp_proxy.proofs.running.run_pooled.Goals as goal

pub run_proxy-requires-send-T : goal.run_proxy-requires-send-T
run_proxy-requires-send-T g c κs within = search (rules, stick_table_send)
