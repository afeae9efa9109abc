-- What a listing of a table in shards is answered, and what its seat is told.
use Rattle.std.specs.Prelude.{◌≡◌, ◌⊎◌, ℕ, ◌<◌, List, [], ◌∷◌}
use Rattle.std.specs.List.{range_with_len}
use Rattle.stick_model.specs.declared.events.Event.{Event}
use Rattle.stick_model.specs.declared.replies.Reply.{Reply}
use Rattle.stick_model.specs.declared.replies.Reply.TheVariants.{Rows as ReplyRows, NotStored as ReplyNotStored}
use Rattle.stick_model.specs.declared.replies.Refusal.{Refusal}
use Rattle.stick_model.specs.declared.replies.Refusal.TheVariants.{Memory}
use Rattle.shard_book.specs.Total.{IsShown, total}
use Rattle.shard_book.specs.SeatState.{SeatState}
use Rattle.shard_book.specs.Told.{IsRefusedTo, Told}
use Rattle.shard_locks.specs.declared.listing.Listing.{Listing}
use Rattle.shard_locks.specs.declared.listing.Listing.TheVariants.{Rows, NotStored}

-- as the reply that it is
abbrev pub listing_reply : Listing → Reply
listing_reply (Rows used rows) = ReplyRows used rows
listing_reply (NotStored datum) = ReplyNotStored datum

-- a seat asks shards an event, one after another, and is told these replies
abbrev pub ToldInTurn : List ℕ → SeatState → Event → List Reply → SeatState → Type 0
ToldInTurn [] old event [] new = new ≡ old
ToldInTurn [] old event (reply ∷ replies) new = ⊥
ToldInTurn (i ∷ shards) old event [] new = ⊥
ToldInTurn (i ∷ shards) old event (reply ∷ replies) new = (middle : SeatState) × Told old i event reply middle × ToldInTurn shards middle event replies new

-- a seat that asked so many shards, the first ones, and was told these replies
abbrev pub ToldByFirst : ℕ → SeatState → Event → List Reply → SeatState → Type 0
ToldByFirst count old event replies new = ToldInTurn (range_with_len 0 count) old event replies new

-- all shards told the seat their replies, and what is listed is the total of them, its rows in the order of their keys
abbrev pub IsListed : ℕ → SeatState → Event → Listing → SeatState → Type 0
IsListed shards old event listing new = (replies : List Reply) × ToldByFirst shards old event replies new × IsShown (total replies) (listing_reply listing)

-- why a listing ends: the shard of this number refuses the seat; or all have replied, and a growth is refused
abbrev pub EndsAt : ℕ → SeatState → Event → ℕ → Refusal → Type 0
EndsAt shards seat event place refusal = ((place < shards) × IsRefusedTo seat place event refusal) ⊎ ((place ≡ shards) × (refusal ≡ Memory))

-- the shards before the one that ends it told the seat their replies, and it has no other call
abbrev pub IsListingRefused : ℕ → SeatState → Event → ℕ → Refusal → SeatState → Type 0
IsListingRefused shards old event place refusal new = (replies : List Reply) × ToldByFirst place old event replies new × EndsAt shards new event place refusal

-- ---- replies to a listing

abbrev pub IsListing : Reply → Type 0
IsListing (ReplyRows used rows) = Unit {0}
IsListing (ReplyNotStored datum) = Unit {0}
IsListing _ = ⊥
