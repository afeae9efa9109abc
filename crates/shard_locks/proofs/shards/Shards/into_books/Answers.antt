use Rattle.std.proofs.Common.{◌≡◌, ◌∙◌, length, sym, ap, subst}
use Rattle.shard_locks.specs.Shared.{AreNumbered, AreParts}
use Rattle.shard_locks.specs.ShardsState.{AreShards, ShardsState, parts_of}
use Rattle.shard_locks.proofs.shards.Shards.into_books.Goals as goal

pub invariant_of-result : goal.invariant_of-result
invariant_of-result g c =
    let inside = c.self.inside in
    let same : length c.unlock_all-room.new.books.items ≡ length inside.books.items = c.unlock_all-room.ensures.books in (
      subst (λ n. AreShards inside.spec n inside.specs.items) (sym same) c.self.invariant.0,
      record { empty = c.unlock_all-room.result.ok.0 ∙ c.unlock_all-room.ensures.locks; places = c.unlock_all-room.ensures.room },
      subst (λ n. AreNumbered inside.first n g.J.Naming.books) (sym same) c.self.invariant.1,
      c.unlock_all-room.ensures.kept,
      subst (AreParts g.J.Naming.specs inside.first inside.spec) (sym same) c.self.invariant.2,
    )

pub returns-clause-ok : goal.returns-clause-ok
returns-clause-ok g c =
    let is = c.self.view_is in (
      ap (λ (t : ShardsState). t.spec) is,
      c.self.invariant.0.parts ∙ ap parts_of is,
      ap (λ (t : ShardsState). t.keep) is,
      c.unlock_all-room.ensures.books ∙ ap (λ (t : ShardsState). t.shards) is,
      ap (λ (t : ShardsState). t.first) is,
    )
