use Rattle.std.proofs.Common.{[], ap, ◌∙◌}
use Rattle.shard_record.specs.Views.{only}
use Rattle.shard_record.proofs.TellingLemmas.{keeper_is}
use Rattle.shard_record.proofs.keeper.Keeper.new.Goals as goal

pub invariant_of-result : goal.invariant_of-result
invariant_of-result g c = (keeper_is c.args.book c.part_keeper.result [] (c.part_keeper.ensures.given ∙ ap (only c.args.book) c.requires.none)).0

pub returns-clause-keeper : goal.returns-clause-keeper
returns-clause-keeper g c = λ i. record { book = c.args.book; log = (keeper_is c.args.book c.part_keeper.result [] (c.part_keeper.ensures.given ∙ ap (only c.args.book) c.requires.none)).1 i }
