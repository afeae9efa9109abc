use Rattle.std.proofs.Common.{◌≡◌, ◌++◌, length}
use Rattle.stickd_ctl.specs.Json.{array_json, lines_json}
use Rattle.stickd_ctl.proofs.json.push_array.Given as goal

-- the lines so far, and those that are left
abbrev pub invariant-loop-line : goal.invariant-loop-line
invariant-loop-line l = l.text.items ++ lines_json l.last l.lines ≡ l.fn.text.items ++ array_json l.answer

abbrev pub decreases-loop-line : goal.decreases-loop-line
decreases-loop-line l = length l.lines
