-- Whether the entry that a saved line makes finds its shard full.
use Rattle.std.specs.Prelude.{◌≡◌, ◌⊎◌, ℕ, nat_le, ◌==◌, ◌&&◌, Option, Some, None, Result, Ok, Err, List, [], ◌∷◌, length, slice_index_or, slice_set, if◌then◌else◌}
use Rattle.stick_key.specs.Shard.{shard, shard_size}
use Rattle.stick_model.specs.Key.{Key}
use Rattle.stick_model.specs.declared.specification.Spec.{Spec}
use Rattle.stick_model.specs.declared.events.Event.{Event}
use Rattle.stick_model.specs.declared.events.Event.TheVariants.{Put, List as ListRows}
use Rattle.stick_model.specs.declared.filters.Filter.TheVariants as filters
use Rattle.stick_model.specs.declared.replies.Reply.{Reply}
use Rattle.stick_model.specs.declared.replies.Reply.TheVariants.{Rows}
use Rattle.shard_book.specs.NamedTables.{NamedState}
use Rattle.table_texts.specs.Form.{Form, Request, Nothing, Unknown as UnknownForm, Tables, Of}
use Rattle.table_texts.specs.Request.{Asks}
use Rattle.table_texts.specs.declared.message.Message.{Message}
use Rattle.table_cli.specs.Answers.{place_of}
use Rattle.table_cli.specs.Shards.{Answering, AsksInTurn, Refusing}
use Rattle.table_cli.specs.declared.room.Room.{Room}
use Rattle.table_cli.specs.declared.room.Room.TheVariants.{Free, Taken, Unknown}

-- what a listing of one key tells of its shard, which has so many places: all of them are taken, and none by that key; or not so
abbrev pub told : ℕ → Reply → Room
told places (Rows used rows) = if nat_le places used && (length rows == 0) then Taken else Free
told places _ = Free

-- the key of an event that makes an entry
abbrev pub key_put : Event → Option Key
key_put (Put now key pairs) = Some key
key_put _ = None

-- and of what was asked, once it was read
abbrev pub key_asked : Result Event Message → Option Key
key_asked (Ok event) = key_put event
key_asked (Err message) = None

module _ {S : Type 0} (answers : Answering S) (refuses : Refusing S) where
  -- the shard of a key is asked to list that key alone; where memory is short for that, nothing is known
  abbrev pub LooksFor : ℕ → Spec → ℕ → S → Key → Room → S → Type 0
  LooksFor moment spec shards old key room new =
      ((room ≡ Unknown) × (new ≡ old))
      ⊎ ((reply : Reply) × AsksInTurn answers refuses (ListRows moment (filters.Key key)) (shard key shards ∷ []) old (reply ∷ []) None new
      × ((room ≡ Unknown) ⊎ (room ≡ told (shard_size spec.size shards (shard key shards)) reply)))

  -- where there is no key to look for, nothing is asked
  abbrev pub LooksWhere : ℕ → Spec → ℕ → S → Option Key → Room → S → Type 0
  LooksWhere moment spec shards old None room new = (room ≡ Free) × (new ≡ old)
  LooksWhere moment spec shards old (Some key) room new = LooksFor moment spec shards old key room new

  -- at the table of a name, if there is one; the others stay
  abbrev pub LooksAt : ℕ → Request → Option ℕ → List (NamedState S) → Room → List (NamedState S) → Type 0
  LooksAt moment request None old room new = (room ≡ Free) × (new ≡ old)
  LooksAt moment request (Some place) old room new =
      (table : NamedState S) × (state : S) × (asked : Result Event Message) × (table ≡ slice_index_or old place table)
      × Asks table.spec.kind moment request asked × LooksWhere moment table.spec table.shards table.state (key_asked asked) room state
      × (new ≡ slice_set old place (record table { state = state }))

  -- for the entry that a command of this form makes
  abbrev pub LooksOf : ℕ → Form → List (NamedState S) → Room → List (NamedState S) → Type 0
  LooksOf moment Nothing old room new = (room ≡ Free) × (new ≡ old)
  LooksOf moment UnknownForm old room new = (room ≡ Free) × (new ≡ old)
  LooksOf moment Tables old room new = (room ≡ Free) × (new ≡ old)
  LooksOf moment (Of name request) old room new = LooksAt moment request (place_of name old) old room new
