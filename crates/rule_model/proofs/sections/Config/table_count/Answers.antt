use Rattle.rule_model.proofs.ServedLemmas.{counted_tables}
use Rattle.rule_model.proofs.sections.Config.table_count.Goals as goal

pub returns : goal.returns
returns c = counted_tables c.args.self.now.sections c.as_slice.result.now c.count_tables.result c.as_slice.ensures c.count_tables.ensures
