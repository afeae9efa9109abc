use Rattle.shard_record.proofs.ViewMoves.{begins}
use Rattle.shard_record.proofs.record.Opened.new.Goals as goal

pub of_words-requires : goal.of_words-requires
of_words-requires c = begins c.args.books c.args.seats
