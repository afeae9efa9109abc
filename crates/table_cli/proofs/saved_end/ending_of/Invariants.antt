use Rattle.std.proofs.Common.{◌≡◌, ◌≤◌, ◌+◌, fold, length}
use Rattle.table_cli.specs.SavedEnd.{ending_of, with_line}
use Rattle.table_cli.proofs.saved_end.ending_of.Given as goal

-- the lines so far, and those that are left
abbrev pub invariant-loop-line : goal.invariant-loop-line
invariant-loop-line l = record {
  read : fold with_line l.ending l.lines ≡ ending_of l.text;
  few : l.ending.lines + length l.lines ≤ length l.text + 1;
  counted : l.ending.entries ≤ l.ending.lines;
}

abbrev pub decreases-loop-line : goal.decreases-loop-line
decreases-loop-line l = length l.lines
