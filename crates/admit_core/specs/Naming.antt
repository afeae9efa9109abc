-- Whether what a need names is there.
use Rattle.std.specs.Prelude.{nat_lt, Bool, true, is_some, length}
use Rattle.rule_model.specs.declared.sections.Setup.{Setup}
use Rattle.admit_core.specs.Held.{held_at}
use Rattle.admit_core.specs.declared.held.Held.{Held}
use Rattle.admit_core.specs.declared.need.Need.{Need}
use Rattle.admit_core.specs.declared.need.Need.TheVariants.{Get, Track, Look, Count, Release}

-- its table is one of the setup's
abbrev pub names_table_of : Setup → Need → Bool
names_table_of setup (Get table key) = nat_lt table (length setup.tables)
names_table_of setup (Track slot table key) = nat_lt table (length setup.tables)
names_table_of setup other = true

-- its slot holds the reference that it needs
abbrev pub names_held : {R : Type 0} → Held R → Need → Bool
names_held held (Look slot) = is_some (held_at held slot)
names_held held (Count slot act) = is_some (held_at held slot)
names_held held (Release slot) = is_some (held_at held slot)
names_held held other = true
