use Rattle.std.proofs.Common.{◌≡◌, ◌++◌, List, length, take, drop, rules, subst, sym, arith}
use Rattle.std.proofs.lemmas.Grind.{common_steps}
use Rattle.base_lines.specs.Chain.{StopsIn}
use Rattle.table_cli.specs.Answers.{Answers, commands_of}
use Rattle.shard_book.specs.NamedTables.{states_of}
use Rattle.table_cli.specs.States.{CommandState}
use Rattle.shard_book.specs.declared.named.Named.{Named}
use Rattle.table_cli.proofs.service.CommandService.serve_line.Goals as goal

pub returns-in-Err-clause-part : goal.returns-in-Err-clause-part
returns-in-Err-clause-part g c =
    let K = g.K.Keeper in
    let C = g.C.Clock in
    let service = c.args.self.now in
    let tables = c.answer.new.tables in
    let told = c.in-Err.ensures.part in
    let count = c.in-Err.fault.done in
    let before : List (Named g.row.K.Denot) → CommandState K.State C.State = λ ts. record { tables = states_of K.table K.parts K.state ts; clock = C.state service.clock } in
    let after : List (Named g.row.K.Denot) → CommandState K.State C.State = λ ts. record { tables = states_of K.table K.parts K.state ts; clock = C.state c.answer.new.clock } in
    let Stops : List (Named g.row.K.Denot) → List (Named g.row.K.Denot) → Type 0 = λ old new. StopsIn (Answers K.answers K.refuses C.shows) (before old) (commands_of c.args.line.now) count told.0 (after new) in
    let refilled : take service.tables.len (tables ++ drop (length tables) service.tables.items) ≡ tables = grind (arith, common_steps) in
    let stopped = subst (λ (ts : List (Named g.row.K.Denot)). Stops ts tables) c.as_mut_slice.ensures.value told.1 in
    (told.0, (count, subst (λ (ts : List (Named g.row.K.Denot)). Stops service.tables.items ts) (sym refilled) stopped, search rules), told.2)
