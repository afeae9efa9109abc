use Rattle.std.proofs.Common.{◌≡◌, ◌++◌, filter, length}
use Rattle.std.specs.List.{flat_map}
use Rattle.stickd_ctl.specs.AddressSets.{element_text, elements_of, is_member}
use Rattle.stickd_ctl.proofs.address_sets.push_elements.Given as goal

-- the elements so far, and those of the lines that are left
abbrev pub invariant-loop-line : goal.invariant-loop-line
invariant-loop-line l = l.text.items ++ flat_map (element_text l.tool l.family l.table) (filter (is_member l.family) l.lines) ≡ l.fn.text.items ++ elements_of l.tool l.family l.table l.listing

abbrev pub decreases-loop-line : goal.decreases-loop-line
decreases-loop-line l = length l.lines
