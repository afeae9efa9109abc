use Rattle.admit_port.proofs.HearLemmas.{taken_holds, taken_left}
use Rattle.admit_port.proofs.hearing.take.Goals as goal

pub returns-clause-left : goal.returns-clause-left
returns-clause-left g c =
    taken_left c.args.conn.now c.take.new.self c.args.answer c.args.reference c.requires.answers c.requires.no_release c.requires.given c.take.ensures.progress c.take.ensures.asked c.take.ensures.less

pub returns-clause-held : goal.returns-clause-held
returns-clause-held g c ports holds names = taken_holds c.args.conn.now c.take.new.self c.args.reference ports c.requires.given c.take.ensures.progress holds names
