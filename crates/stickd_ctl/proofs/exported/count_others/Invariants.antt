use Rattle.std.proofs.Common.{◌≡◌, ◌≤◌, ◌+◌, filter, length}
use Rattle.stickd_ctl.specs.AddressSets.{is_left_out, left_out}
use Rattle.stickd_ctl.proofs.exported.count_others.Given as goal

-- those so far, and those of the lines that are left
abbrev pub invariant-loop-line : goal.invariant-loop-line
invariant-loop-line l = record {
  counted : l.count + length (filter is_left_out l.lines) ≡ length (left_out l.listing);
  few : l.count + length l.lines ≤ length l.listing + 1;
}

abbrev pub decreases-loop-line : goal.decreases-loop-line
decreases-loop-line l = length l.lines
