use Rattle.std.proofs.Common.{◌≡◌, ◌++◌, length, take, drop, map, ap, arith}
use Rattle.std.proofs.lemmas.Grind.{common_steps}
use Rattle.admit_drive.specs.Tables.{table_states}
use Rattle.table_cli.specs.SeenLines.{seen_load}
use Rattle.stickd_script.proofs.LoadedLemmas.{loaded_so, unloaded_so}
use Rattle.stickd_script.proofs.loaded.load_tables.Goals as goal

pub returns-in-Ok-clause-all : goal.returns-in-Ok-clause-all
returns-in-Ok-clause-all g c =
    let tables = c.load.new.tables in
    let old = c.args.tables.now in
    let refilled : take old.len (tables ++ drop (length tables) old.items) ≡ tables = grind (arith, common_steps) in
    loaded_so c.args.misfits (table_states old.items) (table_states c.as_mut_slice.result.now) (table_states tables) (table_states (take old.len (tables ++ drop (length tables) old.items))) c.args.saved.now (ap table_states c.as_mut_slice.ensures.value)
    (ap table_states refilled) (map seen_load c.in-Ok.skipped.items) c.in-Ok.ensures.all

pub returns-in-Err-clause-fault : goal.returns-in-Err-clause-fault
returns-in-Err-clause-fault g c =
    let tables = c.load.new.tables in
    let old = c.args.tables.now in
    let refilled : take old.len (tables ++ drop (length tables) old.items) ≡ tables = grind (arith, common_steps) in
    unloaded_so c.args.misfits (table_states old.items) (table_states c.as_mut_slice.result.now) (table_states tables) (table_states (take old.len (tables ++ drop (length tables) old.items))) c.args.saved.now (ap table_states c.as_mut_slice.ensures.value)
    (ap table_states refilled) (seen_load c.in-Err.fault) c.in-Err.ensures.fault
