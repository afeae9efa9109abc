-- What callers of a table hold who call no more, as one token.
use Rattle.std.specs.Prelude.{◌≡◌, ℕ, zero, suc, ◌+◌, ◌<◌, true, length}
use Rattle.std.specs.List.{AllByRecursion}
use Rattle.stick_model.specs.Key.{Key}
use Rattle.shard_record.specs.declared.view.Part.{Part}
use Rattle.shard_record.specs.Calls.{Held, passed_in}
use Rattle.shard_record.specs.Laws.{of_key}
use Rattle.shard_record.specs.Parts.{IsWithin}
use Rattle.shard_record.specs.Views.{View, at}
use Rattle.shard_locks.specs.ShardsState.{ShardsState, book_of}

-- each reference that a token has of a book had a look that shows at most `limit` of its key, by the calls that the token knows.
-- Of a key, at most as many as a limit says have had such a look
pub record HavePassed (limit : ℕ) (part : Part) : Type 0 where
  pub passed : AllByRecursion (λ (held : Held). passed_in held.1 limit part.log held ≡ true) part.held
  pub within : IsWithin part

-- the same of each shard of a table
abbrev pub HoldsPassed : ShardsState → ℕ → View → Type 0
HoldsPassed table limit token = (shard : ℕ) → shard < table.shards → HavePassed limit (at (book_of table shard) token)

-- how many references of a key a token has on a shard
abbrev pub held_on : ShardsState → ℕ → Key → View → ℕ
held_on table shard key token = of_key key (at (book_of table shard) token)

-- how many references a token has of all shards of a table
abbrev pub sum_to : ℕ → (ℕ → ℕ) → ℕ
sum_to zero f = 0
sum_to (suc n) f = sum_to n f + f n

abbrev pub count_held : ShardsState → View → ℕ
count_held table token = sum_to table.shards (λ shard. length (at (book_of table shard) token).held)
