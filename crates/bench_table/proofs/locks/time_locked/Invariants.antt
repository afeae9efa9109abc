use Rattle.test_calls.specs.Planned.{specs_in}
use Rattle.bench_table.proofs.locks.time_locked.Given as goal

abbrev pub ghosts-locked_recorded : goal.ghosts-locked_recorded
ghosts-locked_recorded g a = record { record_id = a.opened.opened.first.table_id; books = a.opened.opened.books; specs = specs_in a.opened.specs.items }
