use Rattle.test_calls.specs.Planned.{specs_in}
use Rattle.bench_table.proofs.refusals.calls.lead_once.Given as goal

abbrev pub ghosts-lead_recorded : goal.ghosts-lead_recorded
ghosts-lead_recorded g a = record { record_id = a.planned.opened.first.table_id; books = a.planned.opened.books; specs = specs_in a.planned.specs.items }
