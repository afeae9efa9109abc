use Rattle.std.proofs.Common.{◌≡◌, ◌++◌, length}
use Rattle.std.specs.List.{flat_map}
use Rattle.stickd_ctl.specs.Json.{number_json}
use Rattle.stickd_ctl.proofs.json.push_numbers.Given as goal

-- the numbers so far, and those that are left
abbrev pub invariant-loop-word : goal.invariant-loop-word
invariant-loop-word l = l.text.items ++ flat_map number_json l.words ≡ l.fn.text.items ++ flat_map number_json l.fn.words

abbrev pub decreases-loop-word : goal.decreases-loop-word
decreases-loop-word l = length l.words
