-- What commands do to named tables, and what they are answered.
use Rattle.std.specs.Prelude.{◌≡◌, ◌⊎◌, ◌<◌, ℕ, Bool, true, false, Option, Some, None, Result, Ok, Err, List, [], ◌∷◌, ◌++◌, length, filter, codes, slice_index_or, slice_set, position}
use Rattle.std.specs.List.{range_with_len}
use Rattle.std.specs.Str.{bytes_eq}
use Rattle.base_lines.specs.Parts.{parts, is_semicolon}
use Rattle.base_lines.specs.Line.{without_cr}
use Rattle.base_lines.specs.Chain.{Chain}
use Rattle.table_texts.specs.Text.{header_text}
use Rattle.stick_model.specs.declared.specification.Spec.{Spec}
use Rattle.stick_model.specs.declared.events.Event.{Event}
use Rattle.stick_model.specs.declared.events.Event.TheVariants.{List as ListRows}
use Rattle.stick_model.specs.declared.filters.Filter.TheVariants as filters
use Rattle.stick_model.specs.declared.replies.Reply.{Reply}
use Rattle.stick_model.specs.declared.replies.Reply.TheVariants.{Rows}
use Rattle.table_texts.specs.Form.{Form, Request, Nothing, Unknown, Tables, Of, form_of}
use Rattle.table_texts.specs.Request.{Asks}
use Rattle.table_texts.specs.Seen.{words_of}
use Rattle.shard_book.specs.Total.{IsShown, total}
use Rattle.table_cli.specs.Shards.{Answering, AsksInTurn, Refusing, shards_of}
use Rattle.shard_book.specs.NamedTables.{NamedState}
use Rattle.table_cli.specs.States.{CommandState, Showing}
use Rattle.table_texts.specs.Texts.{message_text, reply_text}
use Rattle.table_texts.specs.declared.message.Message.{Message}
use Rattle.table_texts.specs.declared.message.Message.TheVariants.{UnknownCommand, NoSuchTable, OutOfMemory}

-- the place of the first table of a name
abbrev pub place_of : {S : Type 0} → List ℕ → List (NamedState S) → Option ℕ
place_of {S} name tables = position (λ (table : NamedState S). bytes_eq table.name name) tables

-- a table's shards are asked in turn, and it is printed what their replies come to, or why it ended
abbrev pub Prints : List ℕ → Spec → List Reply → Option Message → List ℕ → Type 0
Prints name spec replies None text = (shown : Reply) × IsShown (total replies) shown × (text ≡ reply_text name spec shown)
Prints name spec replies (Some message) text = text ≡ message_text message

-- how many entries a listing tells
abbrev pub used_of : Reply → ℕ
used_of (Rows used rows) = used
used_of _ = 0

-- a table's header, with its whole size and the entries of all its shards; or why its shards' turn ended
abbrev pub IsHead : {S : Type 0} → NamedState S → List Reply → Option Message → Result (List ℕ) Message → Type 0
IsHead table replies None head = head ≡ Ok (header_text table.name table.spec.kind table.spec.size (used_of (total replies)))
IsHead table replies (Some message) head = head ≡ Err message

abbrev pub are_some : List (List ℕ) → Bool
are_some [] = false
are_some (word ∷ words) = true

abbrev pub has_words : List ℕ → Bool
has_words command = are_some (words_of command)

-- the commands of a line: its parts at semicolons that have words, without one carriage return at its end
abbrev pub commands_of : List ℕ → List (List ℕ)
commands_of line = filter has_words (parts is_semicolon (without_cr line))

module _ {S : Type 0} (answers : Answering S) (refuses : Refusing S) where
  abbrev pub AnswersEvent : NamedState S → Event → List ℕ → S → Type 0
  AnswersEvent table event text state =
      (replies : List Reply) × (end : Option Message) × AsksInTurn answers refuses event (shards_of table.shards event) table.state replies end state
      × Prints table.name table.spec replies end text

  -- what is wrong is answered before any event is made
  abbrev pub Does : NamedState S → Result Event Message → List ℕ → S → Type 0
  Does table (Ok event) text state = AnswersEvent table event text state
  Does table (Err message) text state = (text ≡ message_text message) × (state ≡ table.state)

  -- what a request does at the table of a name, if there is one; the others stay
  abbrev pub AsksOf : ℕ → Request → Option ℕ → List (NamedState S) → List ℕ → List (NamedState S) → Type 0
  AsksOf moment request None old text new = (text ≡ message_text NoSuchTable) × (new ≡ old)
  AsksOf moment request (Some place) old text new =
      (table : NamedState S) × (state : S) × (asked : Result Event Message) × (table ≡ slice_index_or old place table)
      × Asks table.spec.kind moment request asked × Does table asked text state
      × (new ≡ slice_set old place (record table { state = state }))

  -- the table at a place is asked how many entries it has; the others stay
  abbrev pub HeadAt : ℕ → List (NamedState S) → ℕ → Result (List ℕ) Message → List (NamedState S) → Type 0
  HeadAt moment old place head new =
      (table : NamedState S) × (state : S) × (replies : List Reply) × (end : Option Message) × (table ≡ slice_index_or old place table)
      × AsksInTurn answers refuses (ListRows moment filters.Nothing) (range_with_len 0 table.shards) table.state replies end state
      × IsHead table replies end head × (new ≡ slice_set old place (record table { state = state }))

  -- the tables at the first places say their headers, one after another
  abbrev pub HeadsOf : ℕ → ℕ → List (NamedState S) → List ℕ → List (NamedState S) → Type 0
  HeadsOf moment count old text new = Chain (λ state place text next. HeadAt moment state place (Ok text) next) old (range_with_len 0 count) text new

  -- all headers, in order of declaration; or why the first table that ended it did, and those behind it aren't asked
  abbrev pub ShowsTables : ℕ → List (NamedState S) → List ℕ → List (NamedState S) → Type 0
  ShowsTables moment old text new =
      ((heads : List ℕ) × HeadsOf moment (length old) old heads new × ((text ≡ heads ++ codes "\n") ⊎ (text ≡ message_text OutOfMemory)))
      ⊎ ((place : ℕ) × (heads : List ℕ) × (mid : List (NamedState S)) × (message : Message) × (place < length old) × HeadsOf moment place old heads mid
      × HeadAt moment mid place (Err message) new × (text ≡ message_text message))

  -- at a moment in ms, from `old`, a command of this form may be answered this text and leave `new`
  abbrev pub AnswersForm : ℕ → Form → List (NamedState S) → List ℕ → List (NamedState S) → Type 0
  AnswersForm moment Nothing old text new = (text ≡ []) × (new ≡ old)
  AnswersForm moment Unknown old text new = (text ≡ message_text UnknownCommand) × (new ≡ old)
  AnswersForm moment Tables old text new = ShowsTables moment old text new
  AnswersForm moment (Of name request) old text new = AsksOf moment request (place_of name old) old text new

  module _ {C : Type 0} (shows : Showing C) where
    -- the clock is read as a command starts
    abbrev pub Answers : CommandState S C → List ℕ → List ℕ → CommandState S C → Type 0
    Answers old command text new = (moment : ℕ) × shows old.clock moment new.clock × AnswersForm moment (form_of (words_of command)) old.tables text new.tables

    abbrev pub AnswersLine : CommandState S C → List ℕ → List ℕ → CommandState S C → Type 0
    AnswersLine old line text new = Chain Answers old (commands_of line) text new
