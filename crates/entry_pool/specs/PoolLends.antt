-- What a pool ends as, where a `&mut` to one of its values is returned.
use Rattle.std.specs.Prelude.{Option}
use Rattle.std.specs.Borrow.{LendsIf, Fml, RattleType, MutBor}
use Rattle.entry_pool.specs.declared.slot_handle.Handle.{Handle}
use Rattle.entry_pool.specs.Contents.{Contents, with_value}
use Rattle.entry_pool.specs.contracts.Pool.{the_row}

-- once the borrow r ends, the handle finds the last value written through r; at `None` the pool stays as it is
abbrev pub lends_found : (T : RattleType) → MutBor (Contents T.Denot) → Handle → Option (MutBor T.Denot) → Fml
lends_found T pool handle r = LendsIf (the_row T) T pool r (with_value pool.now handle) pool.now
