use Rattle.test_calls.specs.Planned.{specs_in}
use Rattle.bench_table.proofs.refusals.calls.rolls_once.Given as goal

abbrev pub ghosts-rolls_recorded : goal.ghosts-rolls_recorded
ghosts-rolls_recorded g a = record { record_id = a.planned.opened.first.table_id; books = a.planned.opened.books; specs = specs_in a.planned.specs.items }
