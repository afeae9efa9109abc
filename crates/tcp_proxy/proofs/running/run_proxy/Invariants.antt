use Rattle.tcp_proxy.specs.Opened.{book_spec}
use Rattle.tcp_proxy.proofs.running.run_proxy.Given as goal

-- the record that was opened, and the tables of the setup by the seeds that were drawn
abbrev pub ghosts-run_recorded : goal.ghosts-run_recorded
ghosts-run_recorded g a = record { record_id = a.calls.opened.first.table_id; books = a.calls.opened.books; specs = book_spec a.setup.now a.calls.seeds.items }
