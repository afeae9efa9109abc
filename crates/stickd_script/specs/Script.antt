-- What the lines of a script write.
use Rattle.std.specs.Prelude.{◌≡◌, ◌⊎◌, ℕ, nat_lt, ◌^◌, Option, Some, None, List, [], ◌∷◌, ◌++◌, codes, decimal, if◌then◌else◌}
use Rattle.std.specs.BTreeMap.{insert_entry}
use Rattle.std.specs.Option.{option_map_or}
use Rattle.std.specs.Ordering.{nat_cmp}
use Rattle.std.specs.Str.{bytes_eq}
use Rattle.byte_ports.specs.Bytes.{IsPrefix}
use Rattle.base_lines.specs.Chain.{StopsIn}
use Rattle.base_lines.specs.Number.{number_of}
use Rattle.base_lines.specs.Words.{LineRest, after_word, words_left}
use Rattle.base_lines.specs.declared.words.Blanks.TheVariants.{Spaces}
use Rattle.shard_book.specs.BooksState.{AreBooks, BooksState, ExtendsAt, IsRefusedAt, live_states}
use Rattle.rule_addresses.specs.Addresses.{address_of}
use Rattle.rule_addresses.specs.declared.address.Address.{Address}
use Rattle.rule_addresses.specs.declared.address.Endpoint.{Endpoint}
use Rattle.rule_model.specs.declared.sections.Setup.{Setup}
use Rattle.rule_eval.specs.declared.wants.Samples.{Samples}
use Rattle.admit_core.specs.Conn.{Stands}
use Rattle.admit_core.specs.Connection.{Connection, arrived, closed}
use Rattle.admit_core.specs.declared.conn.Conn.{Conn}
use Rattle.admit_core.specs.declared.need.Phase.{Phase}
use Rattle.admit_core.specs.declared.need.Phase.TheVariants.{Admitted, Rejected}
use Rattle.table_cli.specs.Answers.{Answers, AnswersLine, commands_of}
use Rattle.table_cli.specs.Shards.{Answering, Refusing}
use Rattle.table_cli.specs.States.{CommandState, Showing}
use Rattle.admit_drive.specs.Moves.{ComesToRest}
use Rattle.admit_drive.specs.Tables.{TableState}
use Rattle.shard_port.specs.declared.reference.Reference.{Reference}
use Rattle.stickd_script.specs.Guests.{Guest, MayBe, ScriptState, guest_of, without}
use Rattle.stickd_script.specs.Rolling.{RecordsRoll}

-- commands at a moment; a connection of an ID opens from an address's text and a port; it closes after so many bytes in and out
pub data Line : Type 0 where
  Empty : Line
  Bad : Line
  Commands : ℕ → List ℕ → Line
  Open : ℕ → ℕ → List ℕ → ℕ → Line
  Close : ℕ → ℕ → ℕ → ℕ → Line

-- ---- reading a line

-- the number that a word writes, where it is below the limit
abbrev pub number_below : ℕ → List ℕ → Option ℕ
number_below limit word = option_map_or (λ number. if nat_lt number limit then Some number else None) (number_of word) None

-- a moment in ms
abbrev pub moment_of : List ℕ → Option ℕ
moment_of word = number_below (2 ^ 62) word

abbrev pub id_of : List ℕ → Option ℕ
id_of word = number_below (2 ^ 32) word

abbrev pub port_of : List ℕ → Option ℕ
port_of word = number_below (2 ^ 16) word

-- ID ADDRESS PORT
abbrev pub opening : ℕ → Option ℕ → List ℕ → Option ℕ → Line
opening moment (Some id) address (Some port) = Open moment id address port
opening moment (Some id) address None = Bad
opening moment None address port = Bad

abbrev pub open_of : ℕ → List (List ℕ) → Line
open_of moment (id ∷ address ∷ port ∷ []) = opening moment (id_of id) address (port_of port)
open_of moment (id ∷ address ∷ port ∷ more ∷ rest) = Bad
open_of moment (id ∷ address ∷ []) = Bad
open_of moment (id ∷ []) = Bad
open_of moment [] = Bad

-- ID IN OUT
abbrev pub closing : ℕ → Option ℕ → Option ℕ → Option ℕ → Line
closing moment (Some id) (Some bytes_in) (Some bytes_out) = Close moment id bytes_in bytes_out
closing moment (Some id) (Some bytes_in) None = Bad
closing moment (Some id) None bytes_out = Bad
closing moment None bytes_in bytes_out = Bad

abbrev pub close_of : ℕ → List (List ℕ) → Line
close_of moment (id ∷ bytes_in ∷ bytes_out ∷ []) = closing moment (id_of id) (number_of bytes_in) (number_of bytes_out)
close_of moment (id ∷ bytes_in ∷ bytes_out ∷ more ∷ rest) = Bad
close_of moment (id ∷ bytes_in ∷ []) = Bad
close_of moment (id ∷ []) = Bad
close_of moment [] = Bad

-- what is done at a moment: cmd, and the commands behind that word; or open, or close, and their words
abbrev pub by_verb : ℕ → List ℕ → List (List ℕ) → List ℕ → Line
by_verb moment verb more commands =
    if bytes_eq verb (codes "cmd") then Commands moment commands
    else (if bytes_eq verb (codes "open") then open_of moment more
    else (if bytes_eq verb (codes "close") then close_of moment more
    else Bad))

abbrev pub by_words : List (List ℕ) → List ℕ → Line
by_words [] commands = Bad
by_words (moment ∷ []) commands = Bad
by_words (moment ∷ verb ∷ more) commands = option_map_or (λ now. by_verb now verb more commands) (moment_of moment) Bad

-- words are parted by spaces alone
abbrev pub text_of : List ℕ → LineRest
text_of line = record { blanks = Spaces; text = line }

-- a line: none, where it is too long
abbrev pub line_of : Option (List ℕ) → Line
line_of None = Bad
line_of (Some []) = Empty
line_of (Some (byte ∷ bytes)) = by_words (words_left (text_of (byte ∷ bytes))) (after_word (after_word (text_of (byte ∷ bytes)))).text

-- ---- commands

-- the shards of tables answer and refuse as their books do, and each has its book still
abbrev pub answering : Answering BooksState
answering old i event reply new = ExtendsAt old i 0 event reply new × AreBooks new

abbrev pub refusing : Refusing BooksState
refusing old i event refusal = IsRefusedAt (live_states old) i event refusal

-- the clock of a line stands at its moment
abbrev pub standing : Showing ℕ
standing old moment new = (moment ≡ old) × (new ≡ old)

abbrev pub at_moment : ℕ → List TableState → CommandState BooksState ℕ
at_moment moment tables = record { tables = tables; clock = moment }

-- commands work on the tables alone
abbrev pub Commanded : ScriptState → ScriptState → Type 0
Commanded old new = new ≡ record old { tables = new.tables }

-- ---- what a line writes and does

abbrev pub bad_line : List ℕ
bad_line = codes "bad line\n"

-- open ID accept, or open ID reject
abbrev pub open_text : ℕ → Phase → List ℕ
open_text id Admitted = codes "open " ++ decimal id ++ codes " accept\n"
open_text id phase = codes "open " ++ decimal id ++ codes " reject\n"

abbrev pub close_text : ℕ → List ℕ
close_text id = codes "close " ++ decimal id ++ codes "\n"

-- the port that connections come to, 0 where the setup listens nowhere
abbrev pub port_at : Option Endpoint → ℕ
port_at None = 0
port_at (Some bind) = bind.port

-- what is known of a connection from an address and a port
abbrev pub samples_of : Setup → Address → ℕ → Samples
samples_of setup source port = record { src = source; src_port = port; dst_port = port_at setup.bind }

-- the open connections, and the one of an ID among them where it was admitted
abbrev pub admitted : Phase → ℕ → Conn Reference → List Guest → List Guest
admitted Admitted id conn guests = insert_entry nat_cmp guests id conn
admitted phase id conn guests = guests

-- the rules of the setup judge a connection, at one moment, until it rests or is ended; where it was admitted, it is open
abbrev pub IsJudged : ℕ → ℕ → Samples → ScriptState → List ℕ → ScriptState → Type 0
IsJudged moment id samples old text new =
    (conn : Conn Reference) × (after : Connection Reference) × Stands conn after × ComesToRest moment old.tables (arrived old.setup samples) new.tables after
    × (new ≡ record old { tables = new.tables; guests = admitted after.progress.phase id conn old.guests }) × (text ≡ open_text id after.progress.phase)

-- an ID that isn't open opens: its connection is judged; or its place is refused, it is rejected and nothing changes
abbrev pub OpensAt : Option (Conn Reference) → ℕ → ℕ → Address → ℕ → ScriptState → List ℕ → ScriptState → Type 0
OpensAt (Some guest) moment id source port old text new = (text ≡ codes "connection already open\n") × (new ≡ old)
OpensAt None moment id source port old text new = IsJudged moment id (samples_of old.setup source port) old text new ⊎ ((text ≡ open_text id Rejected) × (new ≡ old))

-- a text that is no address makes a bad line, before the ID is looked for
abbrev pub OpensFrom : Option Address → ℕ → ℕ → ℕ → ScriptState → List ℕ → ScriptState → Type 0
OpensFrom None moment id port old text new = (text ≡ bad_line) × (new ≡ old)
OpensFrom (Some source) moment id port old text new = OpensAt (guest_of id old.guests) moment id source port old text new

abbrev pub Opens : ℕ → ℕ → List ℕ → ℕ → ScriptState → List ℕ → ScriptState → Type 0
Opens moment id address port old text new = OpensFrom (address_of address) moment id port old text new

-- an open connection is closed: its bytes are counted and its references go back, at one moment, and it is open no more
abbrev pub ClosesAt : Option (Conn Reference) → ℕ → ℕ → ℕ → ℕ → ScriptState → List ℕ → ScriptState → Type 0
ClosesAt None moment id bytes_in bytes_out old text new = (text ≡ codes "no such connection\n") × (new ≡ old)
ClosesAt (Some guest) moment id bytes_in bytes_out old text new =
    (connection after : Connection Reference) × MayBe old.setup guest connection × ComesToRest moment old.tables (closed connection bytes_in bytes_out) new.tables after
    × (new ≡ record old { tables = new.tables; guests = without id old.guests }) × (text ≡ close_text id)

abbrev pub Closes : ℕ → ℕ → ℕ → ℕ → ScriptState → List ℕ → ScriptState → Type 0
Closes moment id bytes_in bytes_out old text new = ClosesAt (guest_of id old.guests) moment id bytes_in bytes_out old text new

abbrev pub LineSays : Line → ScriptState → List ℕ → ScriptState → Type 0
LineSays Empty old text new = (text ≡ []) × (new ≡ old)
LineSays Bad old text new = (text ≡ bad_line) × (new ≡ old)
LineSays (Commands moment commands) old text new = AnswersLine answering refusing standing (at_moment moment old.tables) commands text (at_moment moment new.tables) × Commanded old new
LineSays (Open moment id address port) old text new = Opens moment id address port old text new
LineSays (Close moment id bytes_in bytes_out) old text new = Closes moment id bytes_in bytes_out old text new

-- what a line writes stops behind a prefix of what it could have written as it led to `new`
abbrev pub LineStops : Line → ScriptState → List ℕ → ScriptState → Type 0
LineStops Empty old text new = ⊥
LineStops Bad old text new = IsPrefix text bad_line × (new ≡ old)
LineStops (Commands moment commands) old text new =
    (count : ℕ) × StopsIn (Answers answering refusing standing) (at_moment moment old.tables) (commands_of commands) count text (at_moment moment new.tables) × Commanded old new
LineStops (Open moment id address port) old text new = (whole : List ℕ) × Opens moment id address port old whole new × IsPrefix text whole
LineStops (Close moment id bytes_in bytes_out) old text new = (whole : List ℕ) × Closes moment id bytes_in bytes_out old whole new × IsPrefix text whole

-- from `old`, a line may write this text and leave `new`: what it says, and behind it the tables may roll
abbrev pub Says : ScriptState → Option (List ℕ) → List ℕ → ScriptState → Type 0
Says old line text new = (said : ScriptState) × LineSays (line_of line) old text said × RecordsRoll said new

-- from `old`, what a line writes may stop behind this text and leave `new`
abbrev pub Stops : ScriptState → Option (List ℕ) → List ℕ → ScriptState → Type 0
Stops old line text new = LineStops (line_of line) old text new
