-- Which shards of a table are asked an event, and what they answer, one after another.
use Rattle.std.specs.Prelude.{◌≡◌, ◌⊎◌, ℕ, true, Option, Some, None, List, [], ◌∷◌}
use Rattle.std.specs.Option.{option_map_or}
use Rattle.std.specs.List.{range_with_len}
use Rattle.stick_key.specs.Shard.{shard}
use Rattle.stick_model.specs.Step.{asks_rows, shows_rows}
use Rattle.stick_model.specs.declared.events.Event.{Event}
use Rattle.stick_model.specs.declared.events.Event.TheVariants.{Put, Clear, ClearWhere, List as ListRows}
use Rattle.stick_model.specs.declared.replies.Reply.{Reply}
use Rattle.stick_model.specs.declared.replies.Refusal.{Refusal}
use Rattle.table_texts.specs.Texts.{refusal_message}
use Rattle.table_texts.specs.declared.message.Message.{Message}
use Rattle.table_texts.specs.declared.message.Message.TheVariants.{OutOfMemory}

-- an event that a command makes
abbrev pub IsCommand : Event → Type 0
IsCommand (Put now key pairs) = Unit {0}
IsCommand (Clear now key) = Unit {0}
IsCommand (ClearWhere now choice) = Unit {0}
IsCommand (ListRows now choice) = Unit {0}
IsCommand _ = ⊥

-- in a state a shard may answer an event so, and leave that state
abbrev pub Answering : Type 0 → Type 1
Answering S = S → ℕ → Event → Reply → S → Type 0

-- in a state a shard may refuse an event so
abbrev pub Refusing : Type 0 → Type 1
Refusing S = S → ℕ → Event → Refusal → Type 0

-- the shard on which an event's key lies, if it is asked of that one alone
abbrev pub key_shard : ℕ → Event → Option ℕ
key_shard shards (Put now key pairs) = Some (shard key shards)
key_shard shards (Clear now key) = Some (shard key shards)
key_shard shards _ = None

-- the shards that an event is asked of, in turn: that of its key, or all
abbrev pub shards_of : ℕ → Event → List ℕ
shards_of shards event = option_map_or (λ i. i ∷ []) (key_shard shards event) (range_with_len 0 shards)

-- why no further shard is asked: this one refuses, or a growth was refused
abbrev pub Ends : {S : Type 0} → Refusing S → S → ℕ → Event → Message → Type 0
Ends refuses state i event message = (message ≡ OutOfMemory) ⊎ ((refusal : Refusal) × refuses state i event refusal × (message ≡ refusal_message refusal))

-- shards are asked an event in turn, and their replies are these; it may end with a message, before a shard, or behind
-- them all, where the event asks for rows and a growth for them was refused
abbrev pub AsksInTurn : {S : Type 0} → Answering S → Refusing S → Event → List ℕ → S → List Reply → Option Message → S → Type 0
AsksInTurn answers refuses event [] old [] None new = new ≡ old
AsksInTurn answers refuses event [] old [] (Some message) new = (asks_rows event ≡ true) × (message ≡ OutOfMemory) × (new ≡ old)
AsksInTurn answers refuses event [] old (reply ∷ replies) end new = ⊥
AsksInTurn answers refuses event (i ∷ shards) old [] None new = ⊥
AsksInTurn answers refuses event (i ∷ shards) old [] (Some message) new = Ends refuses old i event message × (new ≡ old)
AsksInTurn {S} answers refuses event (i ∷ shards) old (reply ∷ replies) end new = (middle : S) × answers old i event reply middle × AsksInTurn answers refuses event shards middle replies end new

-- rows are replied only to an event that asks for some
abbrev pub AsksWhatIsShown : Event → Reply → Type 0
AsksWhatIsShown event reply = shows_rows reply ≡ true → asks_rows event ≡ true
