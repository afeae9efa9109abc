use Rattle.std.proofs.Common.{◌≡◌, take}
use Rattle.shard_settling.specs.Settled.{counts_in, tickets_in}
use Rattle.shard_settling.proofs.found.found_in.Given as goal

abbrev pub invariant-loop-book : goal.invariant-loop-book
invariant-loop-book g l = record {
  counts : l.counts.items ≡ counts_in (take l.book-index l.books);
  tickets : l.tickets.items ≡ tickets_in (take l.book-index l.books);
}
