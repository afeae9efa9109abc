use Rattle.std.proofs.Common.{◌≡◌, arith}
use Rattle.shard_book.proofs.BooksLemmas.{all_opened, opened_more}
use Rattle.shard_book.proofs.books.Books.new.Goals as goal

pub loop-shard-preserved : goal.loop-shard-preserved
loop-shard-preserved g c =
    opened_more c.args.spec c.in_ok-part.part c.args.shards c.loop-shard.shard c.loop-shard.books.items c.push.new.self.items c.in_ok-book.book c.loop-shard.invariant c.in_ok-part.ensures c.in_ok-book.ensures.opened c.in_ok-push.ensures.items

pub invariant_of-result : goal.invariant_of-result
invariant_of-result g c =
    let all : c.loop-shard.shard ≡ c.args.shards = omega (arith, c.loop-shard.auto.shard-end, c.loop-shard-test.false) in
    all_opened c.args.spec c.args.shards c.loop-shard.shard c.loop-shard.books.items c.requires.spec c.requires.some c.requires.few c.requires.places all c.loop-shard.invariant

pub returns-clause-books : goal.returns-clause-books
returns-clause-books g c =
    let all : c.loop-shard.shard ≡ c.args.shards = omega (arith, c.loop-shard.auto.shard-end, c.loop-shard-test.false) in
    all_opened c.args.spec c.args.shards c.loop-shard.shard c.loop-shard.books.items c.requires.spec c.requires.some c.requires.few c.requires.places all c.loop-shard.invariant
