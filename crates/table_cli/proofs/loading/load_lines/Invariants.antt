use Rattle.std.proofs.Common.{◌+◌, ◌≤◌, List, [], length, map}
use Rattle.shard_book.specs.NamedTables.{NamedState, states_of}
use Rattle.table_cli.specs.SavedLines.{FaultAt}
use Rattle.table_cli.specs.SeenLines.{seen_load}
use Rattle.table_cli.specs.Loading.{FailsAt, LoadsAll, lines_of}
use Rattle.table_cli.proofs.loading.load_lines.Given as goal

-- what the lines that are left do, all lines do
abbrev pub invariant-loop-line : goal.invariant-loop-line
invariant-loop-line g l =
    let K = g.K.Keeper in
    let old = states_of K.table K.parts K.state l.fn.tables in
    let now = states_of K.table K.parts K.state l.tables in
    record {
      loads : (skipped : List FaultAt) (new : List (NamedState K.State)) → LoadsAll K.answers K.refuses l.misfits (l.done + 1) now (map seen_load l.skipped.items) l.lines skipped new
          → LoadsAll K.answers K.refuses l.misfits 1 old [] (lines_of l.text) skipped new;
      fails : (found : FaultAt) (new : List (NamedState K.State)) → FailsAt K.answers K.refuses l.misfits (l.done + 1) now l.lines found new → FailsAt K.answers K.refuses l.misfits 1 old (lines_of l.text) found new;
      few : l.done + length l.lines ≤ length l.text + 1;
    }

abbrev pub decreases-loop-line : goal.decreases-loop-line
decreases-loop-line g l = length l.lines
