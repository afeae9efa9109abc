use Rattle.shard_record.proofs.DealingLemmas.{keeps_less, keeps_next}
use Rattle.shard_record.proofs.dealing.deal_keeper.Goals as goal

pub new-requires : goal.new-requires
new-requires g c = record { none = keeps_next c.args.book c.args.books c.args.number c.args.seats c.args.first.now c.requires.first c.requires.book }

pub returns-clause-first : goal.returns-clause-first
returns-clause-first g c = keeps_less c.args.book c.args.books c.args.number c.args.seats c.args.first.now c.new.new.first c.requires.first c.requires.book c.new.ensures.left
