use Rattle.std.proofs.Common.{ap, ◌∙◌}
use Rattle.shard_book.specs.BooksState.{opened_books}
use Rattle.admit_drive.proofs.OpenLemmas.{opened_more}
use Rattle.admit_drive.proofs.open.open_tables.Goals as goal

pub loop-named-preserved : goal.loop-named-preserved
loop-named-preserved g c =
    opened_more c.args.setup.now.shards c.as_slice-named-items.result.now c.loop-named.named-index c.named-item.result c.loop-named.tables.items c.push.new.self.items (record { name = c.in_ok-name.name; keeper = c.in_ok-keeper.keeper })
    c.loop-named.invariant c.loop-named-test.true c.named-item.is c.in_ok-name.ensures (c.in_ok-keeper.ensures.opened ∙ ap (λ spec. opened_books spec c.args.setup.now.shards) c.in_ok-copy.ensures) c.in_ok-push.ensures.items
