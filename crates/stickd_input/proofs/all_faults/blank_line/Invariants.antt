use Rattle.std.proofs.Common.{◌≡◌, ◌++◌, ◌-◌, take, drop}
use Rattle.stickd_input.specs.Faults.{blank_behind}
use Rattle.stickd_input.proofs.all_faults.blank_line.Given as goal

-- what is done, with what the rest becomes, is what the whole becomes
abbrev pub invariant-loop-place : goal.invariant-loop-place
invariant-loop-place l = take l.place l.text.items ++ blank_behind l.others (drop l.place l.text.items) ≡ blank_behind (l.fn.number - 1) l.fn.text.items
