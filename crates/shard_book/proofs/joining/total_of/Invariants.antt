use Rattle.std.proofs.Common.{◌≡◌, ◌-◌, ◌*◌, ◌^◌, ◌≤◌, All, IfSome, length}
use Rattle.shard_book.specs.Total.{IsCounted, total}
use Rattle.shard_book.proofs.TotalLemmas.{total_from}
use Rattle.shard_book.proofs.joining.total_of.Given as goal

-- what the replies so far and those to come are together is what all are
abbrev pub invariant-loop-reply : goal.invariant-loop-reply
invariant-loop-reply l = record {
  total : total_from l.so_far l.reply-iterator.rest.items ≡ total l.fn.replies.items;
  so_far : IfSome l.so_far (IsCounted ((length l.fn.replies.items - length l.reply-iterator.rest.items) * 2 ^ 30));
  counted : All (IsCounted (2 ^ 30)) l.reply-iterator.rest.items;
  few : length l.reply-iterator.rest.items ≤ length l.fn.replies.items;
}
