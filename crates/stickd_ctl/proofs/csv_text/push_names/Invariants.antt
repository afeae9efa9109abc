use Rattle.std.proofs.Common.{◌≡◌, ◌++◌, length}
use Rattle.std.specs.List.{flat_map}
use Rattle.stickd_ctl.specs.Csv.{name_field}
use Rattle.stickd_ctl.proofs.csv_text.push_names.Given as goal

-- those so far, and those that are left
abbrev pub invariant-loop-word : goal.invariant-loop-word
invariant-loop-word l = l.text.items ++ flat_map name_field l.words ≡ l.fn.text.items ++ flat_map name_field l.fn.words

abbrev pub decreases-loop-word : goal.decreases-loop-word
decreases-loop-word l = length l.words
