use Rattle.std.proofs.Common.{◌≡◌, ◌++◌, take, drop}
use Rattle.std.specs.Map.{set_value}
use Rattle.stick_model.specs.Key.{same_key}
use Rattle.stick_model.specs.State.{record_at}
use Rattle.stick_model.specs.declared.rows.Record.{Record}
use Rattle.stick_table.proofs.contents.records.position_of.Given as goal

abbrev pub invariant-loop-i : goal.invariant-loop-i
invariant-loop-i l = record {
  found : record_at l.key (drop l.i l.records) ≡ record_at l.key l.records;
  set : (found : Record) → set_value (same_key l.key) l.records found ≡ take l.i l.records ++ set_value (same_key l.key) (drop l.i l.records) found;
}
