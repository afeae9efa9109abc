use Rattle.std.proofs.Common.{◌≡◌, take, drop}
use Rattle.stick_model.specs.Run.{StoredRun}
use Rattle.shard_book.specs.BookState.{stored_of}
use Rattle.shard_settling.proofs.ReplayLemmas.{LeadsOn}
use Rattle.shard_settling.proofs.replaying.redo_all.Given as goal

abbrev pub invariant-loop-call : goal.invariant-loop-call
invariant-loop-call g l = record {
  calls : l.calls ≡ l.book.calls;
  done : StoredRun l.book.base (stored_of (take l.call-index l.calls)) l.replies.items l.table.now;
  rest : LeadsOn l.table.now (drop l.call-index l.calls) l.book.live;
}
