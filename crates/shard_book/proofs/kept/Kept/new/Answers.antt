use Rattle.shard_book.proofs.KeptLemmas.{opened_kept}
use Rattle.shard_book.proofs.kept.Kept.new.Goals as goal

pub invariant_of-result : goal.invariant_of-result
invariant_of-result g c = opened_kept (g.J.Naming.specs c.args.keeper.book) c.args.book c.args.keeper.log c.requires.limits c.requires.book c.requires.made c.requires.keeper
