use Rattle.table_cli.proofs.FilterLemmas.{all_filters}
use Rattle.table_cli.proofs.laws.all_filters.Goals as goal

pub returns : goal.returns
returns c = all_filters
