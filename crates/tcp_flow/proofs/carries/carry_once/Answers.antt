use Rattle.std.proofs.Common.{rules}
use Rattle.tcp_flow.proofs.MoveLemmas.{carried_moves, paused_failed, paused_moves}
use Rattle.tcp_flow.proofs.carries.carry_once.Goals as goal

pub returns-in_err-count-clause-moved : goal.returns-in_err-count-clause-moved
returns-in_err-count-clause-moved g c = paused_moves _ _ _ _ _ _ _ _ _ _ _ _ c.requires.empty c.in_err-count.ensures.paused c.in_err-count.ensures.err

pub returns-in_err-count-clause-failed : goal.returns-in_err-count-clause-failed
returns-in_err-count-clause-failed g c =
    let R = g.R.ReadySource in
    let W = g.W.ReadySink in
    let failed =
    paused_failed R.tells (R.left c.args.reader.now) (R.left c.fill_now.new.reader) (R.failures c.args.reader.now) (R.failures c.fill_now.new.reader) c.args.flow.now.reads c.fill_now.new.self.read (W.failures c.args.writer.now) c.in_err-count.field-0.0 (search rules) c.in_err-count.ensures.paused in
    search rules

pub returns-in-Ok-clause-moved : goal.returns-in-Ok-clause-moved
returns-in-Ok-clause-moved g c = carried_moves _ _ _ _ _ _ _ _ _ _ c.requires.empty c.in_ok-count.ensures.ok c.drain_all_now.ensures.bytes

pub returns-in-Err-clause-moved : goal.returns-in-Err-clause-moved
returns-in-Err-clause-moved g c = carried_moves _ _ _ _ _ _ _ _ _ _ c.requires.empty c.in_ok-count.ensures.ok c.drain_all_now.ensures.bytes
