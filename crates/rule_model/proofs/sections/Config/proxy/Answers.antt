use Rattle.std.proofs.Common.{rules}
use Rattle.rule_model.proofs.ServedLemmas.{are_specs}
use Rattle.rule_model.proofs.sections.Config.proxy.Goals as goal

pub returns-in_default-clause-limits : goal.returns-in_default-clause-limits
returns-in_default-clause-limits c = are_specs c.args.self.now.sections c.in_ok-tables.tables (search rules)

pub returns-clause-limits : goal.returns-clause-limits
returns-clause-limits c = are_specs c.args.self.now.sections c.in_ok-tables.tables (search rules)
