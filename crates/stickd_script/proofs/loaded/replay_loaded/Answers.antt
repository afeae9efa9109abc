use Rattle.std.proofs.Common.{◌≡◌, ℕ, append-nil, ap, inr, map, refl, subst, sym, ◌∙◌}
use Rattle.base_lines.specs.Service.{StopsAfter}
use Rattle.admit_drive.specs.Tables.{table_states}
use Rattle.table_cli.specs.SeenLines.{seen_load}
use Rattle.stickd_script.specs.BadLines.{bad_among, noted}
use Rattle.stickd_script.specs.Loaded.{with_tables}
use Rattle.stickd_script.specs.Script.{Says, Stops}
use Rattle.stickd_script.specs.Seen.{noting_of}
use Rattle.stickd_script.proofs.LoadedLemmas.{begins_at, begins_loaded, begins_served, begins_unloaded}
use Rattle.stickd_script.proofs.NotingLemmas.{all_noted, stopped_noted}
use Rattle.stickd_script.proofs.loaded.replay_loaded.Goals as goal

pub returns-in-Err-clause-stopped : goal.returns-in-Err-clause-stopped
returns-in-Err-clause-stopped g c =
    let server = c.in-Ok.noting.server in
    let noting = noting_of server.setup.now server.tables.items server.guests.entries c.in-Ok.noting.lines c.in-Ok.noting.bad in
    let tables = table_states c.load_tables.new.tables.items in (
      tables,
      begins_unloaded c.args.setup.now noting c.args.misfits c.args.saved.now tables c.in-Ok.ensures (seen_load c.in-Err.fault) c.in-Err.ensures.fault,
      λ shown. refl,
      λ shown. sym (append-nil _),
      c.new-in-Err.ensures,
    )

pub serve_lines-served-requires : goal.serve_lines-served-requires
serve_lines-served-requires g c =
    let server = c.in-Ok.noting.server in
    let noting = noting_of server.setup.now server.tables.items server.guests.entries c.in-Ok.noting.lines c.in-Ok.noting.bad in
    begins_served c.args.setup.now noting c.args.misfits c.args.saved.now (table_states c.load_tables.new.tables.items) c.in-Ok.ensures (map seen_load c.in-Ok-load_tables.skipped.items) c.requires c.in-Ok-load_tables.ensures.all

pub returns-in-Ok-served-clause-whole : goal.returns-in-Ok-served-clause-whole
returns-in-Ok-served-clause-whole g c =
    let server = c.in-Ok.noting.server in
    let noting = noting_of server.setup.now server.tables.items server.guests.entries c.in-Ok.noting.lines c.in-Ok.noting.bad in
    let tables = table_states c.load_tables.new.tables.items in
    let told = c.in-Ok-served.ensures.whole in
    let left = c.serve_lines-served.new.server in
    let new = noting_of left.server.setup.now left.server.tables.items left.server.guests.entries left.lines left.bad in
    let all = all_noted (with_tables c.args.setup.now tables) _ new told.0 told.1 (begins_at c.args.setup.now noting c.args.misfits c.args.saved.now tables c.in-Ok.ensures) told.4 in (
      tables,
      told.0,
      told.1,
      new.script,
      begins_loaded c.args.setup.now noting c.args.misfits c.args.saved.now tables c.in-Ok.ensures (map seen_load c.in-Ok-load_tables.skipped.items) c.in-Ok-load_tables.ensures.all,
      told.2,
      told.3,
      all.0,
      c.into_bad.ensures ∙ all.1,
    )

pub returns-clause-stopped : goal.returns-clause-stopped
returns-clause-stopped g c =
    let server = c.in-Ok.noting.server in
    let noting = noting_of server.setup.now server.tables.items server.guests.entries c.in-Ok.noting.lines c.in-Ok.noting.bad in
    let tables = table_states c.load_tables.new.tables.items in
    let told = c.in-Err-served.ensures.fault in
    let left = c.serve_lines-served.new.server in
    let new = noting_of left.server.setup.now left.server.tables.items left.server.guests.entries left.lines left.bad in
    let begin = with_tables c.args.setup.now tables in
    let all = stopped_noted begin _ new told.0 c.in-Err-served.fault.done told.1 (begins_at c.args.setup.now noting c.args.misfits c.args.saved.now tables c.in-Ok.ensures) told.4 in
    inr (
      tables,
      map seen_load c.in-Ok-load_tables.skipped.items,
      told.0,
      told.1,
      new.script,
      begins_loaded c.args.setup.now noting c.args.misfits c.args.saved.now tables c.in-Ok.ensures (map seen_load c.in-Ok-load_tables.skipped.items) c.in-Ok-load_tables.ensures.all,
      told.2,
      told.3,
      subst (λ (n : ℕ). StopsAfter Says Stops begin told.0 n told.1 new.script) (sym c.fault_of.ensures.done) all.0,
      c.into_bad.ensures ∙ all.1 ∙ ap (λ n. noted (bad_among n told.0)) (sym c.fault_of.ensures.done),
    )
