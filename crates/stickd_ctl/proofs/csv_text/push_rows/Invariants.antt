use Rattle.std.proofs.Common.{◌≡◌, ◌++◌, filter, length}
use Rattle.std.specs.List.{flat_map}
use Rattle.stickd_ctl.specs.Csv.{row_csv, rows_of}
use Rattle.stickd_ctl.specs.Lines.{is_row}
use Rattle.stickd_ctl.proofs.csv_text.push_rows.Given as goal

-- the entries so far, and those of the lines that are left
abbrev pub invariant-loop-line : goal.invariant-loop-line
invariant-loop-line l = l.text.items ++ flat_map row_csv (filter is_row l.lines) ≡ l.fn.text.items ++ flat_map row_csv (rows_of l.listing)

abbrev pub decreases-loop-line : goal.decreases-loop-line
decreases-loop-line l = length l.lines
