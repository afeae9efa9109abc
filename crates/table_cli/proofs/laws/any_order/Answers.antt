use Rattle.table_cli.proofs.FilterLemmas.{any_order}
use Rattle.table_cli.proofs.laws.any_order.Goals as goal

pub returns : goal.returns
returns c = any_order
