use Rattle.std.proofs.Common.{sym, subst}
use Rattle.rule_model.specs.Served.{AreTableSpecs}
use Rattle.rule_model.proofs.ServedLemmas.{with_purges}
use Rattle.rule_model.proofs.sections.Setup.with_purge.Goals as goal

pub returns-clause-limits : goal.returns-clause-limits
returns-clause-limits c limits = subst AreTableSpecs (sym c.purging_tables.ensures) (with_purges c.args.purge c.args.self.tables c.requires limits)
