use Rattle.std.proofs.Common.{◌≡◌, ◌≤◌, ◌+◌, ℕ, List, filter, length}
use Rattle.byte_ports.specs.Bytes.{Grows}
use Rattle.base_lines.specs.Chain.{DoesUpTo}
use Rattle.table_cli.specs.Answers.{Answers, commands_of, has_words}
use Rattle.shard_book.specs.NamedTables.{states_of}
use Rattle.table_cli.specs.States.{CommandState}
use Rattle.table_cli.proofs.serve.answer.Given as goal

-- so many commands of the line are answered, and these parts are left
abbrev pub invariant-loop-command : goal.invariant-loop-command
invariant-loop-command g l =
    let K = g.K.Keeper in
    let C = g.C.Clock in
    let W = g.W.Sink in
    let before : CommandState K.State C.State = record { tables = states_of K.table K.parts K.state l.fn.tables; clock = C.state l.fn.clock } in
    let now : CommandState K.State C.State = record { tables = states_of K.table K.parts K.state l.tables; clock = C.state l.clock } in
    record {
      answered : (text : List ℕ) × DoesUpTo (Answers K.answers K.refuses C.shows) before (commands_of l.line) (filter has_words l.commands) l.done text now
          × Grows W.tells (W.written l.fn.writer) (W.written l.writer) text;
      bound : l.done + length l.commands ≤ length l.line + 1;
      failures : W.failures l.writer ≡ W.failures l.fn.writer;
    }

abbrev pub decreases-loop-command : goal.decreases-loop-command
decreases-loop-command g l = length l.commands
