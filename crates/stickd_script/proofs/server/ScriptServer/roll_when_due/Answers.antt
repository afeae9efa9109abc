use Rattle.admit_drive.specs.Tables.{table_states}
use Rattle.stickd_script.proofs.RollLemmas.{none_rolls}
use Rattle.stickd_script.proofs.server.ScriptServer.roll_when_due.Goals as goal

pub returns-then-self-gt0-clause-rolls : goal.returns-then-self-gt0-clause-rolls
returns-then-self-gt0-clause-rolls g c = none_rolls (table_states c.args.self.now.tables.items)
