use Rattle.table_cli.proofs.FilterLemmas.{few_filters}
use Rattle.table_cli.proofs.laws.few_filters.Goals as goal

pub returns : goal.returns
returns c = few_filters
