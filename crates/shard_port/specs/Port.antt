-- What the answers of a port mean.
use Rattle.std.specs.Prelude.{◌≡◌, ℕ, Bool, true, false, Option, Some, None}
use Rattle.stick_key.specs.Shard.{shard}
use Rattle.stick_model.specs.Key.{Key}
use Rattle.stick_model.specs.declared.events.Event.{Event}
use Rattle.stick_model.specs.declared.events.Event.TheVariants.{Track}
use Rattle.stick_model.specs.declared.replies.Refusal.{Refusal}
use Rattle.stick_model.specs.declared.replies.Reply.{Reply}
use Rattle.stick_model.specs.declared.replies.Reply.TheVariants as replies
use Rattle.stick_model.specs.declared.rows.Row.{Row}
use Rattle.stick_model.specs.declared.rows.Ticket.{Ticket}

-- a port is in states S, and gives references R
pub record Meaning (S R : Type 0) : Type 1 where
  -- how many shards it has
  pub parts : S → ℕ
  -- in a state, a shard may answer an event so, and leave that state
  pub answers : S → ℕ → Event → Reply → S → Type 0
  -- in a state, a shard may refuse an event so
  pub refuses : S → ℕ → Event → Refusal → Type 0
  -- the reference of a ticket that a shard told, and of a reference its shard and its ticket
  pub made : ℕ → Ticket → R
  pub shard_of : R → ℕ
  pub ticket_of : R → Ticket

-- the shard of a key
abbrev pub place : {S R : Type 0} → Meaning S R → S → Key → ℕ
place m port key = shard key (m.parts port)

-- the reply that shows a row, or that there is none
abbrev pub row_reply : Option Row → Reply
row_reply None = replies.Absent
row_reply (Some row) = replies.Row row

-- whether it is a reply to a Track
abbrev pub is_tracking : Reply → Bool
is_tracking (replies.Tracked ticket row) = true
is_tracking replies.Full = true
is_tracking replies.NoRefs = true
is_tracking reply = false

-- the reference that comes with the reply of a shard
abbrev pub came_with : {S R : Type 0} → Meaning S R → ℕ → Reply → Option R
came_with m at (replies.Tracked ticket row) = Some (m.made at ticket)
came_with m at reply = None

-- the shard of a key answers a Track, and this comes with its reply
pub record Tracks {S R : Type 0} (m : Meaning S R) (old : S) (now : ℕ) (key : Key) (came : Option R) (new : S) : Type 0 where
  pub reply : Reply
  pub tracking : is_tracking reply ≡ true
  pub comes : came ≡ came_with m (place m old key) reply
  pub answers : m.answers old (place m old key) (Track now key) reply new
