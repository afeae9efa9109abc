use Rattle.std.proofs.Common.{◌≡◌, ◌++◌, take, drop}
use Rattle.std.specs.BTreeMap.{insert_entry}
use Rattle.stick_model.specs.Key.{key_cmp}
use Rattle.stick_model.specs.declared.rows.Record.{Record}
use Rattle.stick_table.proofs.contents.records.place_of.Given as goal

abbrev pub invariant-loop-i : goal.invariant-loop-i
invariant-loop-i l = (found : Record) → insert_entry key_cmp l.records l.key found ≡ take l.i l.records ++ insert_entry key_cmp (drop l.i l.records) l.key found
