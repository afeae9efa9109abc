use Rattle.std.proofs.Common.{length, rules}
use Rattle.stored_data.proofs.Rows.{zeros_are_new}
use Rattle.stored_data.proofs.words.clear.Goals as goal

pub returns-clause-data : goal.returns-clause-data
returns-clause-data c = zeros_are_new c.fill.new.self (length c.args.words.now) (search rules)
