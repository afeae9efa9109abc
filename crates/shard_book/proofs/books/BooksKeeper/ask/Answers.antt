use Rattle.shard_book.proofs.BooksLemmas.{asked_step}
use Rattle.shard_book.proofs.books.BooksKeeper.ask.Goals as goal

pub returns-clause-step : goal.returns-clause-step
returns-clause-step g c = asked_step c.args.self.now c.call.new.self c.args.shard 0 c.args.event c.call.result c.call.ensures.before c.call.ensures.ok
