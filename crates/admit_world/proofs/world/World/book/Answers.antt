use Rattle.std.proofs.Common.{◌≡◌, ◌<◌, ◌∙◌, ap, sym, subst, length, slice_get}
use Rattle.admit_drive.specs.Tables.{HasShard, table_states}
use Rattle.admit_world.specs.WorldCode.{WorldView, world_view}
use Rattle.admit_world.proofs.ScheduleLemmas.{shard_there}
use Rattle.admit_world.proofs.world.World.book.Goals as goal

pub book_of-requires : goal.book_of-requires
book_of-requires g c =
    let inside : WorldView = world_view c.self.inside.setup.now c.self.inside.tables.items c.self.inside.visitors.items in
    let view : inside ≡ c.args.self.now = c.self.view_is in
    subst (λ tables. HasShard (table_states tables) c.args.table c.args.shard) (sym c.as_slice.ensures.value)
    (shard_there inside c.args.table c.args.shard c.self.invariant
    (subst (λ (v : WorldView). c.args.table < length v.setup.tables) (sym view) c.requires.table) (subst (λ (v : WorldView). c.args.shard < v.setup.shards) (sym view) c.requires.shard))

pub returns : goal.returns
returns g c found at =
    let inside : WorldView = world_view c.self.inside.setup.now c.self.inside.tables.items c.self.inside.visitors.items in
    let view : inside ≡ c.args.self.now = c.self.view_is in
    c.book_of.ensures found (ap (λ tables. slice_get (table_states tables) c.args.table) c.as_slice.ensures.value ∙ ap (λ (v : WorldView). slice_get v.tables c.args.table) view ∙ at)
