use Rattle.std.proofs.Common.{map, rules}
use Rattle.shard_book.specs.NamedTables.{states_of}
use Rattle.table_cli.specs.SeenLines.{seen_end, seen_load}
use Rattle.table_cli.specs.Loading.{lines_of}
use Rattle.table_cli.proofs.LineLemmas.{fails_here, fails_more, loads_more}
use Rattle.table_cli.proofs.loading.load_lines.Goals as goal

pub loop-line-preserved : goal.loop-line-preserved
loop-line-preserved g c =
    let K = g.K.Keeper in
    let here = c.loop-line.invariant in
    let old = states_of K.table K.parts K.state c.args.tables.now in
    let now = states_of K.table K.parts K.state c.loop-line.tables in
    let mid = states_of K.table K.parts K.state c.load_line-end.new.tables in
    let end = seen_end c.load_line-end.result in
    record {
      loads = loads_more K.answers K.refuses c.args.misfits old now mid (lines_of c.args.text.now) c.loop-line.lines c.in-Some.line.now c.next.new.self c.loop-line.done (map seen_load c.loop-line.skipped.items) (map seen_load c.note.new.skipped.items) end
          here.loads c.in-Some.ensures c.load_line-end.ensures c.in-Ok.ensures.passed c.in-Ok.ensures.noted;
      fails = fails_more K.answers K.refuses c.args.misfits old now mid (lines_of c.args.text.now) c.loop-line.lines c.in-Some.line.now c.next.new.self c.loop-line.done end here.fails c.in-Some.ensures c.load_line-end.ensures c.in-Ok.ensures.passed;
      few = search rules;
    }

pub returns-in-Err-clause-fault : goal.returns-in-Err-clause-fault
returns-in-Err-clause-fault g c =
    let K = g.K.Keeper in
    let here = c.loop-line.invariant in
    let old = states_of K.table K.parts K.state c.args.tables.now in
    let now = states_of K.table K.parts K.state c.loop-line.tables in
    let mid = states_of K.table K.parts K.state c.load_line-end.new.tables in
    let end = seen_end c.load_line-end.result in
    fails_here K.answers K.refuses c.args.misfits old now mid (lines_of c.args.text.now) c.loop-line.lines c.in-Some.line.now c.next.new.self c.loop-line.done end here.fails c.in-Some.ensures c.load_line-end.ensures (seen_load c.in-Err.found) c.in-Err.ensures.number c.in-Err.ensures.ends
