-- What messages and replies are printed as. Each answer ends with an empty line.
use Rattle.std.specs.Prelude.{ℕ, nat_eq, List, ◌++◌, codes, if◌then◌else◌}
use Rattle.std.specs.List.{flat_map}
use Rattle.table_texts.specs.Text.{header_text, row_text}
use Rattle.stick_model.specs.declared.specification.Spec.{Spec}
use Rattle.stick_model.specs.declared.replies.Reply.{Reply}
use Rattle.stick_model.specs.declared.replies.Reply.TheVariants.{Absent, Full, NotSettable as IsNotSettable, NotStored as IsNotStored, InUse as IsInUse, Cleared, Rows}
use Rattle.stick_model.specs.declared.replies.Refusal.{Refusal}
use Rattle.stick_model.specs.declared.replies.Refusal.TheVariants.{Stale, Exhausted, Memory, Behind}
use Rattle.table_texts.specs.declared.message.Message.{Message}
use Rattle.table_texts.specs.declared.message.Message.TheVariants.{UnknownCommand, NoSuchTable, InvalidKey, NotStored, NotSettable, InvalidValue, InUse, KeyNotPresent, TableFull, OutOfMemory, Unavailable}

abbrev pub message_text : Message → List ℕ
message_text UnknownCommand = codes "Unknown command.\n\n"
message_text NoSuchTable = codes "No such table.\n\n"
message_text InvalidKey = codes "Invalid key.\n\n"
message_text NotStored = codes "Data type not stored in this table.\n\n"
message_text NotSettable = codes "Data type can't be set.\n\n"
message_text InvalidValue = codes "Invalid value.\n\n"
message_text InUse = codes "Entry currently in use, cannot remove.\n\n"
message_text KeyNotPresent = codes "Key not present.\n\n"
message_text TableFull = codes "Table full.\n\n"
message_text OutOfMemory = codes "Out of memory.\n\n"
message_text Unavailable = codes "Table unavailable.\n\n"

abbrev pub refusal_message : Refusal → Message
refusal_message Memory = OutOfMemory
refusal_message Stale = Unavailable
refusal_message Exhausted = Unavailable
refusal_message (Behind count front) = Unavailable

-- what a table's reply to a command is printed as; a listing is: the header, with the whole size and the number of all entries, and the rows that match
abbrev pub reply_text : List ℕ → Spec → Reply → List ℕ
reply_text table spec (Rows used rows) = header_text table spec.kind spec.size used ++ flat_map (row_text spec.kind spec.columns) rows ++ codes "\n"
reply_text table spec (IsNotStored field) = message_text NotStored
reply_text table spec (IsNotSettable field) = message_text NotSettable
reply_text table spec Full = message_text TableFull
reply_text table spec Absent = message_text KeyNotPresent
reply_text table spec IsInUse = message_text InUse
reply_text table spec (Cleared removed kept) = if nat_eq kept 0 then codes "\n" else message_text InUse
reply_text table spec _ = codes "\n"
