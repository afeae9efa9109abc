-- What a service of commands writes.
use Rattle.std.specs.Prelude.{◌≡◌, ℕ, Option, Some, None, List, length}
use Rattle.byte_ports.specs.Bytes.{IsPrefix}
use Rattle.table_texts.specs.Texts.{message_text}
use Rattle.table_texts.specs.declared.message.Message.TheVariants.{UnknownCommand}
use Rattle.base_lines.specs.Chain.{StopsIn}
use Rattle.table_cli.specs.Answers.{Answers, AnswersLine, commands_of}
use Rattle.table_cli.specs.Shards.{Answering, Refusing}
use Rattle.table_cli.specs.States.{ServiceState, Showing, more}

module _ {S C : Type 0} (answers : Answering S) (refuses : Refusing S) (shows : Showing C) where
  -- a line: none, where it is too long, which is one command that has no form
  abbrev pub SaysLine : ServiceState S C → Option (List ℕ) → List ℕ → ServiceState S C → Type 0
  SaysLine old None text new = (text ≡ message_text UnknownCommand) × (new ≡ record { at = old.at; done = more old.done 1 })
  SaysLine old (Some line) text new = AnswersLine answers refuses shows old.at line text new.at × (new.done ≡ more old.done (length (commands_of line)))

  -- the answers to a line may stop within that of a command, whose events stand, and which isn't counted
  abbrev pub StopsLine : ServiceState S C → Option (List ℕ) → List ℕ → ServiceState S C → Type 0
  StopsLine old None text new = IsPrefix text (message_text UnknownCommand) × (new ≡ old)
  StopsLine old (Some line) text new = (count : ℕ) × StopsIn (Answers answers refuses shows) old.at (commands_of line) count text new.at × (new.done ≡ more old.done count)
