use Rattle.test_calls.specs.Planned.{specs_in}
use Rattle.test_shards.proofs.trials.passes.Given as goal

abbrev pub ghosts-passes_recorded : goal.ghosts-passes_recorded
ghosts-passes_recorded g a = record { record_id = a.planned.opened.first.table_id; books = a.planned.opened.books; specs = specs_in a.planned.specs.items }
