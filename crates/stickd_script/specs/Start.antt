-- Where a script begins: every table empty, and no connection open.
use Rattle.std.specs.Prelude.{[]}
use Rattle.rule_model.specs.declared.sections.Setup.{Setup}
use Rattle.admit_drive.specs.Tables.{empty_tables}
use Rattle.stickd_script.specs.Guests.{ScriptState}

abbrev pub start : Setup → ScriptState
start setup = record { setup = setup; tables = empty_tables setup; guests = [] }
