use Rattle.std.proofs.Common.{◌≡◌, ◌⊎◌, ℕ, List, Some, inl, inr, refl, subst, rules}
use Rattle.shard_book.specs.NamedTables.{states_of}
use Rattle.table_cli.specs.SavedLines.{NoMemory}
use Rattle.table_cli.specs.Loading.{IsFault}
use Rattle.table_cli.specs.SeenLines.{seen_end}
use Rattle.table_cli.proofs.ClockLemmas.{is_answered, stops_short}
use Rattle.table_cli.proofs.loading.make.Goals as goal

pub returns-in-Ok : goal.returns-in-Ok
returns-in-Ok g c =
    let K = g.K.Keeper in
    let said = c.in-Ok.ensures.answer in
    let written = said.2 tt in
    let text : c.written.result.now ≡ said.0 = search rules in
    let end = seen_end c.check_answer.result in
    let told = subst (λ (text : List ℕ). IsFault c.args.command.now text end ⊎ (end ≡ Some NoMemory)) text c.check_answer.ensures in
    inl (said.0, is_answered K.answers K.refuses c.args.moment (states_of K.table K.parts K.state c.args.tables.now) (states_of K.table K.parts K.state c.answer.new.tables) _ _ c.at-clock.ensures c.args.command.now said.0 said.1, told)

pub returns : goal.returns
returns g c =
    let K = g.K.Keeper in
    let stopped = c.in-Err.ensures.part in
    inr (stops_short K.answers K.refuses c.args.moment (states_of K.table K.parts K.state c.args.tables.now) (states_of K.table K.parts K.state c.answer.new.tables) _ _ c.at-clock.ensures c.args.command.now _ stopped.0 stopped.1, refl)
