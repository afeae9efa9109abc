use Rattle.std.proofs.Common.{◌≡◌, drop}
use Rattle.shard_book.specs.NamedTables.{states_of}
use Rattle.table_cli.specs.Loading.{life_in}
use Rattle.table_cli.proofs.loading.life_in.Given as goal

-- those that are left tell it
abbrev pub invariant-loop-named : goal.invariant-loop-named
invariant-loop-named g l =
    let K = g.K.Keeper in
    life_in l.name (states_of K.table K.parts K.state (drop l.named-index l.tables)) ≡ life_in l.name (states_of K.table K.parts K.state l.tables)
