use Rattle.std.proofs.Common.{◌≡◌, reverse, rules}
use Rattle.shard_locks.proofs.KeptLemmas.{kept_next, kept_turned}
use Rattle.shard_locks.proofs.unlocked.unlock_all.Goals as goal

pub loop-lock-preserved : goal.loop-lock-preserved
loop-lock-preserved g c = record {
  room = search rules;
  keepers = search rules;
  same = search rules;
  kept = kept_next g.J.Naming.specs c.loop-lock.books.items c.push_reserved.new.self.items c.loop-lock.keepers.items c.push_reserved-in-Some.new.self.items c.into_parts-book.result.0 c.into_parts-book.result.1 c.loop-lock.invariant.kept c.into_parts-book.ensures.kept c.push_reserved.ensures.items c.push_reserved-in-Some.ensures.items;
  capacity = search rules;
}

pub returns-clause-kept : goal.returns-clause-kept
returns-clause-kept g c =
    let books : c.reverse.new.self.items ≡ reverse c.loop-lock.books.items = search rules in
    let keepers : c.reverse-2.new.self.items ≡ reverse c.loop-lock.keepers.items = search rules in
    kept_turned g.J.Naming.specs c.loop-lock.books.items c.reverse.new.self.items c.loop-lock.keepers.items c.reverse-2.new.self.items c.loop-lock.invariant.kept books keepers
