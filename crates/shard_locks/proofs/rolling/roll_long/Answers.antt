use Rattle.std.proofs.Common.{sym, subst}
use Rattle.shard_book.specs.BookState.{IsBook}
use Rattle.shard_book.proofs.RollLemmas.{rolled_is_book}
use Rattle.shard_locks.proofs.rolling.roll_long.Goals as goal

pub returns-in-Ok-clause-book : goal.returns-in-Ok-clause-book
returns-in-Ok-clause-book g c = subst IsBook (sym c.in-Ok.ensures.ok) (rolled_is_book c.args.kept.now.book (subst IsBook c.book.ensures.book c.calls.ensures.book))
