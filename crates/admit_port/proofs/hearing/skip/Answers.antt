use Rattle.admit_port.proofs.HearLemmas.{refusal_holds, skipped_left}
use Rattle.admit_port.proofs.hearing.skip.Goals as goal

pub returns-clause-left : goal.returns-clause-left
returns-clause-left g c = skipped_left c.args.conn.now c.refused.new.self c.requires.event c.requires.no_release c.requires.given c.refused.ensures.progress c.refused.ensures.rules

pub returns-clause-held : goal.returns-clause-held
returns-clause-held g c ports holds = refusal_holds c.args.conn.now c.refused.new.self ports c.requires.given c.refused.ensures.progress holds
