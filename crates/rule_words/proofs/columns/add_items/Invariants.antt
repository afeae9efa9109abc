use Rattle.std.proofs.Common.{◌≡◌, length}
use Rattle.base_lines.specs.Parts.{parts, is_byte}
use Rattle.rule_words.specs.Table.{with_items}
use Rattle.rule_words.proofs.columns.add_items.Given as goal

-- the items that are left, after those so far, give what the whole list gives
abbrev pub invariant-loop-item : goal.invariant-loop-item
invariant-loop-item l = with_items l.columns l.items ≡ with_items l.fn.columns (parts (is_byte 44) l.list)

abbrev pub decreases-loop-item : goal.decreases-loop-item
decreases-loop-item l = length l.items
