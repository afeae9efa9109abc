use Rattle.std.proofs.Common.{◌≡◌, ◌++◌, drop, map}
use Rattle.std.specs.Option.{option_map}
use Rattle.stick_pooled.specs.Seen.{filled}
use Rattle.stick_pooled.specs.Shown.{kept_keyed}
use Rattle.stick_pooled.specs.Stock.{kept_slots}
use Rattle.stick_pooled.proofs.plain_copy.gather_records.Given as goal

-- the records so far, and those of the slots to come
abbrev pub invariant-loop-slot : goal.invariant-loop-slot
invariant-loop-slot l =
    l.records.items ++ filled (map (option_map (kept_keyed l.expire)) (drop l.slot (kept_slots l.point l.store))) ≡ filled (map (option_map (kept_keyed l.expire)) (kept_slots l.point l.store))
