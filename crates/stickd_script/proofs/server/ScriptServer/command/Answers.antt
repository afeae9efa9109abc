use Rattle.std.proofs.Common.{◌≡◌, ◌++◌, length, take, drop, refl, sym, ap, arith}
use Rattle.std.proofs.lemmas.Grind.{common_steps}
use Rattle.table_cli.specs.Answers.{commands_of}
use Rattle.admit_drive.specs.Tables.{table_states}
use Rattle.stickd_script.proofs.ClockLemmas.{line_said, line_stopped}
use Rattle.stickd_script.proofs.server.ScriptServer.command.Goals as goal

pub returns-in-Ok-clause-answer : goal.returns-in-Ok-clause-answer
returns-in-Ok-clause-answer g c =
    let server = c.args.self.now in
    let tables = c.answer.new.tables in
    let said = c.in-Ok.ensures.answer in
    let refilled : take server.tables.len (tables ++ drop (length tables) server.tables.items) ≡ tables = grind (arith, common_steps) in (
      said.0,
      (
        line_said c.args.moment (table_states server.tables.items) (table_states (take server.tables.len (tables ++ drop (length tables) server.tables.items))) (table_states c.as_mut_slice.result.now) (table_states tables)
            c.at-clock.result c.answer.new.clock c.at-clock.ensures (ap table_states c.as_mut_slice.ensures.value) (ap table_states (sym refilled)) c.args.commands.now said.0 said.1,
        refl,
      ),
      said.2,
    )

pub returns-in-Err-clause-part : goal.returns-in-Err-clause-part
returns-in-Err-clause-part g c =
    let server = c.args.self.now in
    let tables = c.answer.new.tables in
    let stopped = c.in-Err.ensures.part in
    let refilled : take server.tables.len (tables ++ drop (length tables) server.tables.items) ≡ tables = grind (arith, common_steps) in (
      stopped.0,
      (
        c.in-Err.field-0.done,
        line_stopped c.args.moment (table_states server.tables.items) (table_states (take server.tables.len (tables ++ drop (length tables) server.tables.items))) (table_states c.as_mut_slice.result.now) (table_states tables)
            c.at-clock.result c.answer.new.clock c.at-clock.ensures (ap table_states c.as_mut_slice.ensures.value) (ap table_states (sym refilled)) (commands_of c.args.commands.now) c.in-Err.field-0.done stopped.0 stopped.1,
        refl,
      ),
      stopped.2,
    )
