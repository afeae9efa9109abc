use Rattle.std.proofs.Common.{ℕ, Some, [], append-nil, ap, refl, subst, sym, ◌∙◌}
use Rattle.base_lines.proofs.ServiceLemmas.{progress_none, stops_before}
use Rattle.base_lines.specs.Service.{StopsAfter}
use Rattle.stickd_script.specs.BadLines.{Noting, bad_among, noted}
use Rattle.stickd_script.specs.Guests.{IsServed}
use Rattle.stickd_script.specs.Script.{Says, Stops}
use Rattle.stickd_script.specs.Seen.{noting_of}
use Rattle.stickd_script.specs.Start.{start}
use Rattle.stickd_script.proofs.NotingLemmas.{all_noted, stopped_noted}
use Rattle.stickd_script.proofs.ServedLemmas.{start_served}
use Rattle.stickd_script.proofs.replay.replay_script.Goals as goal

pub returns-in_default-clause-fault : goal.returns-in_default-clause-fault
returns-in_default-clause-fault g c =
    let begin = start c.args.setup.now in
    ([], [], begin, λ shown. refl, λ shown. sym (append-nil _), stops_before Says Stops begin begin [] [] (Some []) 0 [] (progress_none Says begin (Some []) refl), c.new.ensures)

pub serve_lines-served-requires : goal.serve_lines-served-requires
serve_lines-served-requires g c = subst IsServed (ap (λ (n : Noting). n.script) (sym c.in-Ok.ensures)) (start_served c.args.setup.now c.requires)

pub returns-in-Ok-served-clause-whole : goal.returns-in-Ok-served-clause-whole
returns-in-Ok-served-clause-whole g c =
    let told = c.in-Ok-served.ensures.whole in
    let left = c.serve_lines-served.new.server in
    let new = noting_of left.server.setup.now left.server.tables.items left.server.guests.entries left.lines left.bad in
    let all = all_noted (start c.args.setup.now) _ new told.0 told.1 c.in-Ok.ensures told.4 in
    (told.0, told.1, new.script, told.2, told.3, all.0, c.into_bad.ensures ∙ all.1)

pub returns-in-Err-clause-fault : goal.returns-in-Err-clause-fault
returns-in-Err-clause-fault g c =
    let told = c.in-Err.ensures.fault in
    let left = c.serve_lines-served.new.server in
    let new = noting_of left.server.setup.now left.server.tables.items left.server.guests.entries left.lines left.bad in
    let all = stopped_noted (start c.args.setup.now) _ new told.0 c.in-Err.fault.done told.1 c.in-Ok.ensures told.4 in (
      told.0,
      told.1,
      new.script,
      told.2,
      told.3,
      subst (λ (n : ℕ). StopsAfter Says Stops (start c.args.setup.now) told.0 n told.1 new.script) (sym c.fault_of.ensures.done) all.0,
      c.into_bad.ensures ∙ all.1 ∙ ap (λ n. noted (bad_among n told.0)) (sym c.fault_of.ensures.done),
    )
