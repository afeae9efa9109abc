-- What holds at every moment, whatever the threads do.
use Rattle.std.specs.Prelude.{◌≡◌, ℕ, ◌≤◌, List, count_by}
use Rattle.stick_model.specs.Key.{Key, same_key}
use Rattle.stick_model.specs.State.{refs}
use Rattle.shard_record.specs.declared.view.Part.{Part}
use Rattle.shard_record.specs.Calls.{Held, passed_in}
use Rattle.shard_record.specs.Parts.{Kept, total}
use Rattle.shard_record.specs.Views.{AreKept, View, parts_at}

-- of a token's references, how many are of a key
abbrev pub of_key : Key → Part → ℕ
of_key key part = count_by (λ (held : Held). same_key key held.1) part.held

-- of a token's references, how many have had, by these calls, a look that shows at most `limit` of the key
abbrev pub passed_of : Key → ℕ → {parts : List Part} → Kept parts → Part → ℕ
passed_of key limit kept part = count_by (passed_in key limit kept.log) part.held

-- of all references of a book that tokens have, whoever has them, at most `limit` of a key have had a look that shows at most
-- `limit`; and its table has as many references of a key out as tokens have
pub record AtOnce (parts : List Part) (kept : Kept parts) : Type 0 where
  pub limit : (key : Key) (limit : ℕ) → total (passed_of key limit kept) parts ≤ limit
  pub current : (key : Key) → total (of_key key) parts ≡ refs key kept.live.tickets

abbrev pub AtOnceLaw : Type 0
AtOnceLaw = (views : List View) (kept : AreKept views) (book : ℕ) → AtOnce (parts_at book views) (kept book)
