-- A form of the code, without where its words lie in memory.
use Rattle.std.specs.Prelude.{ℕ, List}
use Rattle.base_lines.specs.Words.{words, is_blank}
use Rattle.base_lines.specs.declared.words.Blanks.TheVariants.{SpacesAndTabs}
use Rattle.table_texts.specs.Form as spec
use Rattle.table_texts.specs.declared.form.Choice.{Choice}
use Rattle.table_texts.specs.declared.form.Choice.TheVariants.{Everything, Key, Compare}
use Rattle.table_texts.specs.declared.form.Form.{Form}
use Rattle.table_texts.specs.declared.form.Form.TheVariants.{Nothing, Unknown, Tables, Of}
use Rattle.table_texts.specs.declared.form.Request.{Request}
use Rattle.table_texts.specs.declared.form.Request.TheVariants.{Show, Clear, Set}

-- a command's words
abbrev pub words_of : List ℕ → List (List ℕ)
words_of command = words (is_blank SpacesAndTabs) command

abbrev pub seen_choice : Choice → spec.Choice
seen_choice Everything = spec.Everything
seen_choice (Key text) = spec.OneKey text.now
seen_choice (Compare name op value) = spec.Compare name.now op value.now

abbrev pub seen_request : Request → spec.Request
seen_request (Show choice) = spec.Show (seen_choice choice)
seen_request (Clear choice) = spec.Clear (seen_choice choice)
seen_request (Set key pairs) = spec.Set key.now (words_of pairs.now)

abbrev pub seen : Form → spec.Form
seen Nothing = spec.Nothing
seen Unknown = spec.Unknown
seen Tables = spec.Tables
seen (Of name request) = spec.Of name.now (seen_request request)
