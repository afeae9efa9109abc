use Rattle.std.proofs.Common.{ap, get_or}
use Rattle.table_cli.proofs.TableLemmas.{looked_at, not_looked_at}
use Rattle.table_cli.proofs.room.look_at.Goals as goal

pub returns-in-Some : goal.returns-in-Some
returns-in-Some g c =
    let tables = c.args.tables.now in
    let place = c.in-Some.place in
    let here = c.index-tables-place in
    let did = c.look_in.ensures.looks in
    let K = g.K.Keeper in
    looked_at K.answers K.refuses K.table K.parts K.state c.args.moment _ c.args.name.now tables place (get_or tables place here.result) c.look_in.new.named c.look_in.result did.0
    c.in-Some.ensures.within (ap (λ d. get_or tables place d) here.is) c.in-Some.ensures.place c.look_in.ensures.name c.look_in.ensures.table c.look_in.ensures.parts did.1 did.2

pub returns-in-None : goal.returns-in-None
returns-in-None g c = let K = g.K.Keeper in not_looked_at K.answers K.refuses K.table K.parts K.state c.args.moment _ c.args.name.now c.args.tables.now c.in-None.ensures.place
