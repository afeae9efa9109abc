-- What a form asks of a table, once its key, its data and its numbers are read.
use Rattle.std.specs.Prelude.{◌≡◌, ◌⊎◌, ℕ, nat_le, Option, Some, None, Result, Ok, Err, List, [], ◌∷◌, unwrap_or, if◌then◌else◌}
use Rattle.base_lines.specs.Number.{number_of}
use Rattle.stick_key.specs.KeyText.{Reads, IsMalformed, IsOutOfRange, TakesMemory}
use Rattle.stick_key.specs.declared.kind.KeyType.{KeyType}
use Rattle.stored_data.specs.Data.{greatest}
use Rattle.stored_data.specs.declared.field.Field.{Field}
use Rattle.stick_model.specs.Key.{Key}
use Rattle.stick_model.specs.declared.rows.Cell.{Cell}
use Rattle.stick_model.specs.declared.filters.Op.{Op}
use Rattle.stick_model.specs.declared.filters.Filter.{Filter}
use Rattle.stick_model.specs.declared.filters.Filter.TheVariants as filters
use Rattle.stick_model.specs.declared.events.Event.{Event}
use Rattle.stick_model.specs.declared.events.Event.TheVariants.{Put, ClearWhere, List as ListRows}
use Rattle.stick_model.specs.declared.events.Event.TheVariants as events
use Rattle.table_texts.specs.Form.{Choice, Everything, OneKey, Compare, Request, Show, Clear, Set, datum_name}
use Rattle.table_texts.specs.FieldNames.{field_of}
use Rattle.table_texts.specs.declared.message.Message.{Message}
use Rattle.table_texts.specs.declared.message.Message.TheVariants.{InvalidKey, NotStored, InvalidValue, OutOfMemory}

-- ---- what reading a part comes to: a value, or the message of what is wrong

-- a key's text
abbrev pub ReadsKey : KeyType → List ℕ → Result Key Message → Type 0
ReadsKey kind text (Ok key) = Reads kind text key
ReadsKey kind text (Err InvalidKey) = IsMalformed kind text ⊎ IsOutOfRange kind text
ReadsKey kind text (Err OutOfMemory) = TakesMemory kind text
ReadsKey kind text (Err _) = ⊥

-- data.X OP V: first the name, then the number
abbrev pub compared : Option Field → Op → Option ℕ → Result Filter Message
compared None op value = Err NotStored
compared (Some field) op None = Err InvalidValue
compared (Some field) op (Some bound) = Ok (filters.Compare field op bound)

abbrev pub ReadsFilter : KeyType → Choice → Result Filter Message → Type 0
ReadsFilter kind Everything read = read ≡ Ok filters.Everything
ReadsFilter kind (OneKey text) (Ok filter) = (key : Key) × ReadsKey kind text (Ok key) × (filter ≡ filters.Key key)
ReadsFilter kind (OneKey text) (Err message) = ReadsKey kind text (Err message)
ReadsFilter kind (Compare name op value) read = read ≡ compared (field_of name) op (number_of value)

-- a pair's field and value, the value at most the greatest of its datum
abbrev pub cell_of : Option Field → Option ℕ → Result Cell Message
cell_of None value = Err NotStored
cell_of (Some field) None = Err InvalidValue
cell_of (Some field) (Some value) = if nat_le value (greatest field.datum) then Ok (record { field = field; value = value }) else Err InvalidValue

abbrev pub with_cell : Result Cell Message → Result (List Cell) Message → Result (List Cell) Message
with_cell (Ok cell) (Ok cells) = Ok (cell ∷ cells)
with_cell (Ok cell) (Err message) = Err message
with_cell (Err message) rest = Err message

-- pair by pair, up to the first that is wrong
abbrev pub cells_of : List (List ℕ) → Result (List Cell) Message
cells_of [] = Ok []
cells_of (word ∷ []) = Ok []
cells_of (word ∷ value ∷ rest) = with_cell (cell_of (field_of (unwrap_or (datum_name word) [])) (number_of value)) (cells_of rest)

-- key K and pairs: the key first, then pair by pair
abbrev pub ReadsPut : KeyType → ℕ → List ℕ → List (List ℕ) → Result Event Message → Type 0
ReadsPut kind moment text pairs (Ok event) = (key : Key) × (cells : List Cell) × ReadsKey kind text (Ok key) × (cells_of pairs ≡ Ok cells) × (event ≡ Put moment key cells)
ReadsPut kind moment text pairs (Err message) = ReadsKey kind text (Err message) ⊎ ((key : Key) × ReadsKey kind text (Ok key) × ((cells_of pairs ≡ Err message) ⊎ (message ≡ OutOfMemory)))

-- the event that a request makes of a table of this kind of key, at a moment in ms
abbrev pub Asks : KeyType → ℕ → Request → Result Event Message → Type 0
Asks kind moment (Show choice) (Ok event) = (filter : Filter) × ReadsFilter kind choice (Ok filter) × (event ≡ ListRows moment filter)
Asks kind moment (Show choice) (Err message) = ReadsFilter kind choice (Err message)
Asks kind moment (Clear (OneKey text)) (Ok event) = (key : Key) × ReadsKey kind text (Ok key) × (event ≡ events.Clear moment key)
Asks kind moment (Clear (OneKey text)) (Err message) = ReadsKey kind text (Err message)
Asks kind moment (Clear choice) (Ok event) = (filter : Filter) × ReadsFilter kind choice (Ok filter) × (event ≡ ClearWhere moment filter)
Asks kind moment (Clear choice) (Err message) = ReadsFilter kind choice (Err message)
Asks kind moment (Set text pairs) asked = ReadsPut kind moment text pairs asked
