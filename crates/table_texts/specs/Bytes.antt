-- The bytes of an answer.
use Rattle.std.specs.Prelude.{ℕ, List, [], codes}
use Rattle.table_texts.specs.declared.answer_text.Answer.{Answer}
use Rattle.table_texts.specs.declared.answer_text.Answer.TheVariants as answers
use Rattle.table_texts.specs.Texts.{message_text}

abbrev pub bytes_of : Answer → List ℕ
bytes_of answers.Nothing = []
bytes_of answers.Done = codes "\n"
bytes_of (answers.Message message) = message_text message
bytes_of (answers.Listing text) = text.items
