use Rattle.std.proofs.Common.{◌≡◌, ◌++◌, length}
use Rattle.std.specs.List.{flat_map}
use Rattle.stickd_ctl.specs.Saving.{pair_text}
use Rattle.stickd_ctl.proofs.saved.push_pairs.Given as goal

-- those so far, and those that are left
abbrev pub invariant-loop-word : goal.invariant-loop-word
invariant-loop-word l = l.text.items ++ flat_map pair_text l.words ≡ l.fn.text.items ++ flat_map pair_text l.fn.words

abbrev pub decreases-loop-word : goal.decreases-loop-word
decreases-loop-word l = length l.words
