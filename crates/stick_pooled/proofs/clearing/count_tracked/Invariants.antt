use Rattle.std.proofs.Common.{◌≡◌, ◌≤◌, true, false, Option, take, count_by}
use Rattle.std.specs.Option.{option_map_or}
use Rattle.stick_pooled.specs.Stock.{Held}
use Rattle.stick_pooled.specs.Seen.{is_meant_as}
use Rattle.stick_pooled.proofs.clearing.count_tracked.Given as goal

abbrev pub invariant-loop-slot : goal.invariant-loop-slot
invariant-loop-slot l = record { count : l.count ≡ count_by (λ (slot : Option Held). option_map_or (is_meant_as l.clock l.choice true) slot false) (take l.slot l.store.slots); within : l.count ≤ l.slot }
