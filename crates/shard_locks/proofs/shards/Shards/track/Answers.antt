use Rattle.std.proofs.Common.{◌≡◌, List, [], ◌++◌, sym, subst}
use Rattle.stick_model.specs.Laws.{tickets_told}
use Rattle.stick_model.specs.declared.events.Event.TheVariants.{Track}
use Rattle.shard_record.specs.declared.view.Call.{Call}
use Rattle.shard_record.specs.Calls.{IsHistory}
use Rattle.shard_record.specs.Parts.{holder}
use Rattle.shard_record.specs.Views.{only}
use Rattle.shard_record.specs.Telling.{log_of, number_of}
use Rattle.shard_locks.specs.Shared.{IsGiven}
use Rattle.shard_locks.specs.ShardsState.{book_of}
use Rattle.shard_locks.proofs.SharedLemmas.{track_given}
use Rattle.shard_locks.proofs.shards.Shards.track.Goals as goal

pub tracking_of-requires-clause-given : goal.tracking_of-requires-clause-given
tracking_of-requires-clause-given g c =
    let book = book_of c.args.self.now c.shard_of-place.result in
    let told = c.in-Ok.ensures.recorded in
    let given : List Call → Type 0 = λ log. c.in-Ok.token ≡ only book (holder log (tickets_told (Track c.args.now c.args.key) c.in-Ok.reply [])) in
    subst (λ n. IsGiven n c.in-Ok.reply c.in-Ok.token) (sym c.book_of-book.ensures.book)
    (track_given book (log_of book c.args.seat.now.known ++ told.between) (number_of book c.args.seat.now.known) c.args.now c.args.key c.in-Ok.reply c.in-Ok.token
    (subst IsHistory told.log told.history) (subst given told.log c.in-Ok.ensures.given))
