use Rattle.stickd_script.proofs.ServedLemmas.{rolls_served}
use Rattle.stickd_script.specs.Seen.{script_state}
use Rattle.stickd_script.proofs.server.ScriptServerLineServer.serve.Goals as goal

pub returns-in-Ok-clause-holds : goal.returns-in-Ok-clause-holds
returns-in-Ok-clause-holds g c =
    let said = c.serve_line.new.self in
    let new = c.roll_when_due.new.self in
    let rolls = c.roll_when_due.ensures in
    rolls_served (script_state said.setup.now said.tables.items said.guests.entries) (script_state new.setup.now new.tables.items new.guests.entries)
    (record { tables = rolls.rolls; others = λ k. script_state (rolls.setup k).now new.tables.items (rolls.guests k).entries })
    c.in-Ok.ensures.holds
