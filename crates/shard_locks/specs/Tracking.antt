-- What tracking a key is answered, as the reply that it is.
use Rattle.std.specs.Prelude.{◌≡◌, ℕ}
use Rattle.stick_model.specs.declared.replies.Reply.{Reply}
use Rattle.stick_model.specs.declared.replies.Reply.TheVariants.{Tracked as ReplyTracked, Full as ReplyFull, NoRefs as ReplyNoRefs}
use Rattle.shard_book.specs.SeatState.{RefState}
use Rattle.shard_locks.specs.declared.tracking.Tracking.{Tracking}
use Rattle.shard_locks.specs.declared.tracking.Tracking.TheVariants.{Tracked, Full, NoRefs}

abbrev pub reply_of : Tracking RefState → Reply
reply_of (Tracked reference row) = ReplyTracked reference.ticket row
reply_of Full = ReplyFull
reply_of NoRefs = ReplyNoRefs

-- its reference, where it has one, is of this shard
abbrev pub IsAt : ℕ → Tracking RefState → Type 0
IsAt shard (Tracked reference row) = reference.shard ≡ shard
IsAt shard Full = Unit {0}
IsAt shard NoRefs = Unit {0}

-- it is a reply to a track
abbrev pub IsTracking : Reply → Type 0
IsTracking (ReplyTracked ticket row) = Unit {0}
IsTracking ReplyFull = Unit {0}
IsTracking ReplyNoRefs = Unit {0}
IsTracking _ = ⊥
