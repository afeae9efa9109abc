use Rattle.std.proofs.Common.{ap, get_or}
use Rattle.table_cli.proofs.TableLemmas.{asked_at, no_table}
use Rattle.table_cli.proofs.serve.ask_named.Goals as goal

pub returns-in-Some : goal.returns-in-Some
returns-in-Some g c =
    let tables = c.args.tables.now in
    let place = c.in-Some.place in
    let here = c.index-tables-place in
    let did = c.ask_table.ensures.does in
    let K = g.K.Keeper in
    asked_at K.answers K.refuses K.table K.parts K.state c.args.moment _ c.args.name.now tables place (get_or tables place here.result) c.ask_table.new.named _ did.0
    c.in-Some.ensures.within (ap (λ d. get_or tables place d) here.is) c.in-Some.ensures.place c.ask_table.ensures.name c.ask_table.ensures.table c.ask_table.ensures.parts did.1 did.2

pub returns-in-None : goal.returns-in-None
returns-in-None g c = let K = g.K.Keeper in no_table K.answers K.refuses K.table K.parts K.state c.args.moment _ c.args.name.now c.args.tables.now c.in-None.ensures.place
