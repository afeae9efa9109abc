use Rattle.shard_book.specs.NamedTables.{states_of}
use Rattle.table_cli.specs.SavedLines.{line_of}
use Rattle.table_cli.specs.SeenLines.{seen_end}
use Rattle.table_cli.proofs.LineLemmas.{loads_free}
use Rattle.table_cli.proofs.loading.load_line.Goals as goal

pub returns-in-Free : goal.returns-in-Free
returns-in-Free g c =
    let K = g.K.Keeper in
    let old = states_of K.table K.parts K.state c.args.tables.now in
    let mid = states_of K.table K.parts K.state c.look.new.tables in
    let new = states_of K.table K.parts K.state c.make.new.tables in
    loads_free K.answers K.refuses old mid new (line_of c.args.line.now) c.in-Makes.left c.in-Makes.table.now c.in-Makes.command.now c.moment_of-moment.result (seen_end c.make.result)
    c.in-Makes.ensures c.moment_of-moment.ensures.moment c.in-Free.ensures c.make.ensures
