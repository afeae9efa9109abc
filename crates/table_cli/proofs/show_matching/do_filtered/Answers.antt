use Rattle.std.proofs.Common.{ap, get_or}
use Rattle.table_texts.specs.Seen.{words_of}
use Rattle.table_cli.proofs.MatchingLemmas.{does_at, does_none}
use Rattle.table_cli.proofs.show_matching.do_filtered.Goals as goal

pub returns-in-Some : goal.returns-in-Some
returns-in-Some g c =
    let tables = c.args.tables.now in
    let place = c.in-Some.place in
    let here = c.index-tables-place in
    let did = c.do_read.ensures.does in
    let K = g.K.Keeper in
    does_at K.answers K.refuses c.args.moment K.table K.parts K.state c.args.deed (words_of c.args.filtered.filters.now) c.args.filtered.table.now tables place (get_or tables place here.result) c.do_read.new.named _ did.0
    c.in-Some.ensures.within (ap (λ d. get_or tables place d) here.is) c.in-Some.ensures.place c.do_read.ensures.name c.do_read.ensures.table c.do_read.ensures.parts did.1 did.2

pub returns-in-None : goal.returns-in-None
returns-in-None g c = let K = g.K.Keeper in does_none K.answers K.refuses c.args.moment K.table K.parts K.state c.args.deed (words_of c.args.filtered.filters.now) c.args.filtered.table.now c.args.tables.now c.in-None.ensures.place
