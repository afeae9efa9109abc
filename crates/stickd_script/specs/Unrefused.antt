-- Scripts in which nothing is refused.
use Rattle.std.specs.Prelude.{◌≡◌, ◌≢◌, ℕ, Option, Some, None, Result, Ok, Err, List, [], ◌++◌, length, slice_get, slice_set, codes}
use Rattle.std.specs.List.{range_with_len}
use Rattle.base_lines.specs.Chain.{Chain}
use Rattle.base_lines.specs.Service.{ServesAll}
use Rattle.table_texts.specs.Text.{header_text}
use Rattle.stick_model.specs.declared.events.Event.{Event}
use Rattle.stick_model.specs.declared.events.Event.TheVariants.{List as ListRows}
use Rattle.stick_model.specs.declared.filters.Filter.TheVariants as filters
use Rattle.stick_model.specs.declared.replies.Reply.{Reply}
use Rattle.shard_book.specs.BooksState.{BooksState}
use Rattle.table_texts.specs.Form.{Form, Request, Nothing, Unknown, Tables, Of, form_of}
use Rattle.table_texts.specs.Request.{Asks}
use Rattle.table_texts.specs.Seen.{words_of}
use Rattle.table_texts.specs.Texts.{message_text, reply_text}
use Rattle.table_texts.specs.declared.message.Message.{Message}
use Rattle.table_texts.specs.declared.message.Message.TheVariants.{UnknownCommand, NoSuchTable, OutOfMemory}
use Rattle.table_cli.specs.Answers.{commands_of, place_of, used_of}
use Rattle.table_cli.specs.Shards.{AsksInTurn, shards_of}
use Rattle.shard_book.specs.Total.{IsShown, total}
use Rattle.rule_addresses.specs.Addresses.{address_of}
use Rattle.rule_addresses.specs.declared.address.Address.{Address}
use Rattle.rule_model.specs.declared.sections.Setup.{Setup}
use Rattle.rule_eval.specs.declared.wants.Samples.{Samples}
use Rattle.admit_core.specs.Conn.{Stands}
use Rattle.admit_core.specs.Connection.{Connection, arrived, closed}
use Rattle.admit_core.specs.declared.conn.Conn.{Conn}
use Rattle.admit_drive.specs.Unrefused.{ComesToRestUnrefused}
use Rattle.admit_drive.specs.Tables.{CanOpen, TableState}
use Rattle.shard_port.specs.declared.reference.Reference.{Reference}
use Rattle.stickd_script.specs.Guests.{MayBe, ScriptState, guest_of, without}
use Rattle.stickd_script.specs.Script.{Bad, Close, Commanded, Commands, Empty, Line, Open, Says, admitted, answering, bad_line, close_text, line_of, open_text, refusing, samples_of}
use Rattle.stickd_script.specs.Rolling.{RecordsRoll}
use Rattle.stickd_script.specs.Start.{start}

-- the rules judge a connection, and nothing that it asks is refused
abbrev pub JudgesUnrefused : ℕ → ℕ → Samples → ScriptState → List ℕ → ScriptState → Type 0
JudgesUnrefused moment id samples old text new =
    (conn : Conn Reference) × (after : Connection Reference) × Stands conn after × ComesToRestUnrefused moment old.tables (arrived old.setup samples) new.tables after
    × (new ≡ record old { tables = new.tables; guests = admitted after.progress.phase id conn old.guests }) × (text ≡ open_text id after.progress.phase)

abbrev pub OpensUnrefused : Option Address → Option (Conn Reference) → ℕ → ℕ → ℕ → ScriptState → List ℕ → ScriptState → Type 0
OpensUnrefused None guest moment id port old text new = (text ≡ bad_line) × (new ≡ old)
OpensUnrefused (Some source) (Some guest) moment id port old text new = (text ≡ codes "connection already open\n") × (new ≡ old)
OpensUnrefused (Some source) None moment id port old text new = JudgesUnrefused moment id (samples_of old.setup source port) old text new

-- an open connection is closed, and nothing that it asks is refused
abbrev pub ClosesUnrefused : Option (Conn Reference) → ℕ → ℕ → ℕ → ℕ → ScriptState → List ℕ → ScriptState → Type 0
ClosesUnrefused None moment id bytes_in bytes_out old text new = (text ≡ codes "no such connection\n") × (new ≡ old)
ClosesUnrefused (Some guest) moment id bytes_in bytes_out old text new =
    (connection after : Connection Reference) × MayBe old.setup guest connection × ComesToRestUnrefused moment old.tables (closed connection bytes_in bytes_out) new.tables after
    × (new ≡ record old { tables = new.tables; guests = without id old.guests }) × (text ≡ close_text id)

-- ---- commands

-- what is read isn't refused for want of memory
abbrev pub IsAmple : {X : Type 0} → Result X Message → Type 0
IsAmple (Ok x) = Unit {0}
IsAmple (Err message) = message ≢ OutOfMemory

-- all shards of a table reply, and what that comes to is printed; or what is wrong is answered
abbrev pub DoesUnrefused : TableState → Result Event Message → List ℕ → BooksState → Type 0
DoesUnrefused table (Ok event) text state =
    (replies : List Reply) × (shown : Reply) × AsksInTurn answering refusing event (shards_of table.shards event) table.state replies None state
    × IsShown (total replies) shown × (text ≡ reply_text table.name table.spec shown)
DoesUnrefused table (Err message) text state = (text ≡ message_text message) × (state ≡ table.state)

-- the table at a place is asked
abbrev pub AsksUnrefused : ℕ → Request → Option ℕ → List TableState → List ℕ → List TableState → Type 0
AsksUnrefused moment request None old text new = (text ≡ message_text NoSuchTable) × (new ≡ old)
AsksUnrefused moment request (Some place) old text new =
    (table : TableState) × (state : BooksState) × (asked : Result Event Message) × (slice_get old place ≡ Some table)
    × Asks table.spec.kind moment request asked × IsAmple asked × DoesUnrefused table asked text state × (new ≡ slice_set old place (record table { state = state }))

-- the table at a place says its header
abbrev pub HeadUnrefused : ℕ → List TableState → ℕ → List ℕ → List TableState → Type 0
HeadUnrefused moment old place text new =
    (table : TableState) × (state : BooksState) × (replies : List Reply) × (slice_get old place ≡ Some table)
    × AsksInTurn answering refusing (ListRows moment filters.Nothing) (range_with_len 0 table.shards) table.state replies None state
    × (text ≡ header_text table.name table.spec.kind table.spec.size (used_of (total replies))) × (new ≡ slice_set old place (record table { state = state }))

abbrev pub FormUnrefused : ℕ → Form → List TableState → List ℕ → List TableState → Type 0
FormUnrefused moment Nothing old text new = (text ≡ []) × (new ≡ old)
FormUnrefused moment Unknown old text new = (text ≡ message_text UnknownCommand) × (new ≡ old)
FormUnrefused moment Tables old text new = (heads : List ℕ) × Chain (HeadUnrefused moment) old (range_with_len 0 (length old)) heads new × (text ≡ heads ++ codes "\n")
FormUnrefused moment (Of name request) old text new = AsksUnrefused moment request (place_of name old) old text new

-- a command is answered so, where nothing is refused
abbrev pub CommandUnrefused : ℕ → List TableState → List ℕ → List ℕ → List TableState → Type 0
CommandUnrefused moment old command text new = FormUnrefused moment (form_of (words_of command)) old text new

-- ---- lines

-- a line may write this text, where nothing is refused
abbrev pub LineUnrefused : Line → ScriptState → List ℕ → ScriptState → Type 0
LineUnrefused Empty old text new = (text ≡ []) × (new ≡ old)
LineUnrefused Bad old text new = (text ≡ bad_line) × (new ≡ old)
LineUnrefused (Commands moment commands) old text new = Chain (CommandUnrefused moment) old.tables (commands_of commands) text new.tables × Commanded old new
LineUnrefused (Open moment id address port) old text new = OpensUnrefused (address_of address) (guest_of id old.guests) moment id port old text new
LineUnrefused (Close moment id bytes_in bytes_out) old text new = ClosesUnrefused (guest_of id old.guests) moment id bytes_in bytes_out old text new

abbrev pub SaysUnrefused : ScriptState → Option (List ℕ) → List ℕ → ScriptState → Type 0
SaysUnrefused old line text new = (said : ScriptState) × LineUnrefused (line_of line) old text said × RecordsRoll said new

-- what is said so is what the lines of a script say
abbrev pub UnrefusedLaw : Type 0
UnrefusedLaw = (old : ScriptState) (line : Option (List ℕ)) (text : List ℕ) (new : ScriptState) → SaysUnrefused old line text new → Says old line text new

-- a script in which nothing is refused has one output
abbrev pub OneOutputLaw : Type 0
OneOutputLaw = (setup : Setup) (script output other : List ℕ) (new again : ScriptState) → CanOpen setup →
    ServesAll SaysUnrefused (start setup) script output new → ServesAll SaysUnrefused (start setup) script other again → output ≡ other
