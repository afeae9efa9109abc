use Rattle.std.proofs.Common.{◌≡◌, ◌∙◌, ◌++◌, ◌∷◌, [], Option, ap, length, arith}
use Rattle.std.specs.Option.{option_to_list}
use Rattle.shard_record.specs.Telling.{KeeperState}
use Rattle.shard_locks.proofs.KeptLemmas.{kept_length, kept_pair}
use Rattle.shard_locks.proofs.unlocked.lock_all.Goals as goal

pub unwrap-keeper-requires : goal.unwrap-keeper-requires
unwrap-keeper-requires g c =
    let same : length c.loop-book.keepers.items ≡ length c.loop-book.books.items = kept_length g.J.Naming.specs c.loop-book.books.items c.loop-book.keepers.items c.loop-book.invariant.kept in
    c.pop-in-Some.ensures.variant.1 (omega (arith, same, c.loop-book.keepers.ok.0, c.loop-book.books.ok.0, c.in-Some.ensures.len))

pub from_parts-kept-requires : goal.from_parts-kept-requires
from_parts-kept-requires g c =
    let last : c.loop-book.keepers.items ≡ c.pop-in-Some.new.self.items ++ c.unwrap-keeper.result ∷ [] =
    c.pop-in-Some.ensures.items ∙ ap (λ (r : Option KeeperState). c.pop-in-Some.new.self.items ++ option_to_list r) c.unwrap-keeper.ensures in
    record { kept = (kept_pair g.J.Naming.specs c.loop-book.books.items c.pop.new.self.items c.loop-book.keepers.items c.pop-in-Some.new.self.items c.in-Some.book c.unwrap-keeper.result c.loop-book.invariant.kept c.in-Some.ensures.items last).1 }

pub loop-book-preserved : goal.loop-book-preserved
loop-book-preserved g c =
    let last : c.loop-book.keepers.items ≡ c.pop-in-Some.new.self.items ++ c.unwrap-keeper.result ∷ [] =
    c.pop-in-Some.ensures.items ∙ ap (λ (r : Option KeeperState). c.pop-in-Some.new.self.items ++ option_to_list r) c.unwrap-keeper.ensures in
    record {
      kept = (kept_pair g.J.Naming.specs c.loop-book.books.items c.pop.new.self.items c.loop-book.keepers.items c.pop-in-Some.new.self.items c.in-Some.book c.unwrap-keeper.result c.loop-book.invariant.kept c.in-Some.ensures.items last).0;
      room = omega (arith, c.push_reserved.ensures.len, c.push_reserved.ensures.capacity, c.in-Some.ensures.len, c.loop-book.invariant.room);
      same = omega (arith, c.push_reserved.ensures.len, c.in-Some.ensures.len, c.loop-book.invariant.same, c.pop.new.self.ok.0, c.push_reserved.new.self.ok.0, c.loop-book.books.ok.0, c.loop-book.room.ok.0);
    }
