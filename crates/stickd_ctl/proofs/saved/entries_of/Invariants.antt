use Rattle.std.proofs.Common.{◌≡◌, ◌++◌, map, filter, length}
use Rattle.stickd_ctl.specs.Saving.{is_saved, line_in, saved_lines, time_of}
use Rattle.stickd_ctl.specs.declared.saved.Entry.{Entry}
use Rattle.stickd_ctl.proofs.saved.entries_of.Given as goal

-- the entries so far, and those of the lines that are left
abbrev pub invariant-loop-line : goal.invariant-loop-line
invariant-loop-line l = record {
  lines_are : map line_in l.entries.items ++ filter is_saved l.lines ≡ saved_lines l.listing;
  times_are : map (λ (entry : Entry). entry.left) l.entries.items ++ map time_of (filter is_saved l.lines) ≡ map time_of (saved_lines l.listing);
}

abbrev pub decreases-loop-line : goal.decreases-loop-line
decreases-loop-line l = length l.lines
