use Rattle.test_calls.specs.Planned.{specs_in}
use Rattle.bench_table.proofs.crowd.run_round.Given as goal

abbrev pub ghosts-round_recorded : goal.ghosts-round_recorded
ghosts-round_recorded g a = record { record_id = a.opened.opened.first.table_id; books = a.opened.opened.books; specs = specs_in a.opened.specs.items }
