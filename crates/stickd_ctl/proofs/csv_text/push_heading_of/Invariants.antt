use Rattle.std.proofs.Common.{◌≡◌, filter, length}
use Rattle.stickd_ctl.specs.Csv.{heading_of, rows_of}
use Rattle.stickd_ctl.specs.Lines.{is_row}
use Rattle.stickd_ctl.proofs.csv_text.push_heading_of.Given as goal

-- no line so far is an entry's
abbrev pub invariant-loop-line : goal.invariant-loop-line
invariant-loop-line l = record {
  nothing : l.text.items ≡ l.fn.text.items;
  first : heading_of (filter is_row l.lines) ≡ heading_of (rows_of l.listing);
}

abbrev pub decreases-loop-line : goal.decreases-loop-line
decreases-loop-line l = length l.lines
