use Rattle.table_cli.proofs.OldestLemmas.{none_shown, shown_at}
use Rattle.table_cli.proofs.oldest_first.show_oldest_first.Goals as goal

pub returns-in-Some : goal.returns-in-Some
returns-in-Some g c =
    let K = g.K.Keeper in
    let here = c.index-tables-place in
    shown_at K.holds K.table K.parts K.state c.args.moment c.args.name.now c.args.tables.now c.in-Some.place here.result _
    c.in-Some.ensures.within here.is c.in-Some.ensures.place c.show_of.ensures

pub returns-in-None : goal.returns-in-None
returns-in-None g c = let K = g.K.Keeper in none_shown K.holds K.table K.parts K.state c.args.moment c.args.name.now c.args.tables.now c.in-None.ensures.place
