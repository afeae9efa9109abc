use Rattle.std.proofs.Common.{subst}
use Rattle.stick_key.specs.Shard.{shard}
use Rattle.stick_model.specs.declared.events.Event.TheVariants.{Track}
use Rattle.shard_record.specs.Telling.{IsTold}
use Rattle.shard_book.specs.SeatState.{RefState}
use Rattle.shard_locks.specs.ShardsState.{book_of}
use Rattle.shard_locks.specs.Tracking.{IsAt, reply_of}
use Rattle.shard_locks.specs.declared.tracking.Tracking.{Tracking}
use Rattle.test_calls.proofs.CrowdLemmas.{tracked_is}
use Rattle.test_calls.proofs.crowds.track_one.Goals as goal

pub returns-in-Ok-Tracked : goal.returns-in-Ok-Tracked
returns-in-Ok-Tracked g c =
    let place = shard c.args.key c.args.table.now.shards in
    let told = subst (λ (t : Tracking RefState). IsTold (book_of c.args.table.now place) (Track c.args.now c.args.key) (reply_of t) c.args.seat.now.known c.track.new.seat.known) c.in-Ok-Tracked.field-0-is c.in-Ok-Tracked.ensures.recorded in
    let at = subst (λ (t : Tracking RefState). IsAt place t) c.in-Ok-Tracked.field-0-is c.in-Ok-Tracked.ensures.at in
    record { tracked = tracked_is c.args.table.now place c.args.now c.args.key c.in-Ok-Tracked.reference c.in-Ok-Tracked._row c.args.seat.now.known c.track.new.seat.known told at }
