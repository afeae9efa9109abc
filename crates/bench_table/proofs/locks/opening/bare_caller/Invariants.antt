use Rattle.test_calls.specs.Planned.{specs_in}
use Rattle.bench_table.proofs.locks.opening.bare_caller.Given as goal

abbrev pub ghosts-bare_recorded : goal.ghosts-bare_recorded
ghosts-bare_recorded g a = record { record_id = a.opened.opened.first.table_id; books = a.opened.opened.books; specs = specs_in a.opened.specs.items }
