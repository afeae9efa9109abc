use Rattle.std.proofs.Common.{rules, ◌≡◌}
use Rattle.stored_data.specs.Stored.{is_column}
use Rattle.stored_data.proofs.Columns.{is_column-holds}
use Rattle.stored_data.proofs.stored_set.StoredSet.holds.Goals as goal

pub returns-clause-holds : goal.returns-clause-holds
returns-clause-holds c =
    let same : c.has_column.result ≡ is_column c.args.self.now c.args.datum = search rules in
    rw same (is_column-holds c.args.self.now c.args.datum)
