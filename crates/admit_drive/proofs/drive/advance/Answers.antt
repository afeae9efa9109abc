use Rattle.std.proofs.Common.{◌∙◌, sym}
use Rattle.admit_drive.specs.Tables.{table_states}
use Rattle.admit_drive.proofs.PortLemmas.{can_go_on, goes, goes_without, never_kept, stayed, went_on, went_without}
use Rattle.admit_drive.proofs.drive.advance.Goals as goal

pub advance-requires-clause-ready : goal.advance-requires-clause-ready
advance-requires-clause-ready g c = can_go_on (table_states c.args.tables.now) c.args.conn.now c.requires.tables c.requires.covered c.requires.given

pub unreachable-requires : goal.unreachable-requires
unreachable-requires g c = never_kept c.args.moment (table_states c.args.tables.now) c.args.conn.now c.requires.tables c.requires.covered (c.advance.ensures.kept c.in-Kept.is)

pub returns-in-Answered-clause-left : goal.returns-in-Answered-clause-left
returns-in-Answered-clause-left g c _ = c.advance.ensures.left (goes c.advance.result c.in-Answered.is)

pub returns-in-Answered-clause-moved : goal.returns-in-Answered-clause-moved
returns-in-Answered-clause-moved g c =
    went_on c.args.moment (table_states c.args.tables.now) (table_states c.advance.new.ports) c.args.conn.now c.advance.new.conn c.advance.result c.requires.tables c.requires.covered c.in-Answered.is c.advance.ensures.moved

pub returns-in-Refused-clause-left : goal.returns-in-Refused-clause-left
returns-in-Refused-clause-left g c _ = c.advance.ensures.left (goes_without c.advance.result c.in-Refused.is)

pub returns-in-Refused-clause-moved : goal.returns-in-Refused-clause-moved
returns-in-Refused-clause-moved g c =
    went_without c.args.moment (table_states c.args.tables.now) (table_states c.advance.new.ports) c.args.conn.now c.advance.new.conn c.advance.result c.requires.tables c.requires.covered c.in-Refused.is c.advance.ensures.moved

pub returns-then-is_still-clause-moved : goal.returns-then-is_still-clause-moved
returns-then-is_still-clause-moved g c = stayed c.args.moment (table_states c.args.tables.now) c.args.conn.now (sym c.is_still.ensures ∙ c.if-is_still.true)
