use Rattle.std.proofs.Common.{◌≡◌, ◌≢◌, [], List, Some, sym, subst, rules}
use Rattle.std.specs.Prelude.{slice_get}
use Rattle.shard_book.specs.SeatState.{RefState}
use Rattle.shard_settling.specs.Settled.{shown}
use Rattle.shard_settling.proofs.FaultLemmas.{is_shown}
use Rattle.shard_settling.proofs.ListLemmas.{get_at}
use Rattle.shard_settling.proofs.counts.strange_reference.Goals as goal

pub returns-then-other-shards-clause-some : goal.returns-then-other-shards-clause-some
returns-then-other-shards-clause-some g c =
    let refs : List RefState = c.args.refs.now in
    let reference : RefState = c.reference-item.result in
    let at : slice_get refs c.loop-reference.reference-index ≡ Some reference = get_at refs c.loop-reference.reference-index reference c.loop-reference-test.true c.reference-item.is in
    let there : shown c.shard-other.result refs ≢ [] = subst (λ n. shown n refs ≢ []) (sym c.shard-other.ensures) (is_shown refs c.loop-reference.reference-index reference at) in
    search rules
