use Rattle.std.proofs.Common.{◌≡◌, ◌-◌, ◌++◌, take}
use Rattle.std.specs.List.{flat_map}
use Rattle.stickd_ctl.specs.Windows.{cut_line}
use Rattle.stickd_ctl.proofs.window.push_cut.Given as goal

-- the lines so far, and those that are left
abbrev pub invariant-loop-place : goal.invariant-loop-place
invariant-loop-place l = l.text.items ++ flat_map (cut_line l.columns) (take (l.most - l._place) l.lines) ≡ l.fn.text.items ++ flat_map (cut_line l.columns) (take l.most l.fn.lines)
