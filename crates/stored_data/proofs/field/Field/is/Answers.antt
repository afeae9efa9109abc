use Rattle.std.proofs.Common.{rules}
use Rattle.stored_data.specs.Fields.{same_field}
use Rattle.stored_data.proofs.field.Field.is.Goals as goal

pub returns-then-place : goal.returns-then-place
unfolding same_field
returns-then-place c = search rules

pub returns-else-place : goal.returns-else-place
unfolding same_field
returns-else-place c = search rules
