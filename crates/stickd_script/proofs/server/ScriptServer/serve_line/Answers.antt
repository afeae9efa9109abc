use Rattle.stickd_script.specs.Script.{Open, Close, Commands}
use Rattle.stickd_script.proofs.ServedLemmas.{line_served}
use Rattle.stickd_script.proofs.server.ScriptServer.serve_line.Goals as goal

pub returns-in-Ok-write_text-clause-holds : goal.returns-in-Ok-write_text-clause-holds
returns-in-Ok-write_text-clause-holds g c =
    line_served (Open c.in-Open.moment c.in-Open.id c.in-Open.address.now c.in-Open.port) _ c.open-text.result _ c.in-Open.ensures.timely c.open-text.ensures c.requires

pub returns-in-Ok-write_text-2-clause-holds : goal.returns-in-Ok-write_text-2-clause-holds
returns-in-Ok-write_text-2-clause-holds g c =
    line_served (Close c.in-Close.moment c.in-Close.id c.in-Close.bytes_in c.in-Close.bytes_out) _ c.close-text.result _ c.in-Close.ensures.timely c.close-text.ensures c.requires

pub returns-in-Ok-command-clause-holds : goal.returns-in-Ok-command-clause-holds
returns-in-Ok-command-clause-holds g c =
    let told = c.in-Ok-command.ensures.answer in
    line_served (Commands c.in-Commands.moment c.in-Commands.commands.now) _ told.0 _ c.in-Commands.ensures.timely told.1 c.requires
