use Rattle.std.proofs.Common.{true}
use Rattle.shard_book.proofs.ToldLemmas.{ask_refused}
use Rattle.shard_book.proofs.asking.ask_twice.Goals as goal

pub returns-in-Err-clause-refused : goal.returns-in-Err-clause-refused
returns-in-Err-clause-refused g c = ask_refused c.args.book.now.live true c.args.event.now c.in-Err.refusal c.in-Err.ensures.refused
