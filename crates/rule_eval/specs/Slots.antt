-- Which table each slot of a connection tracks an entry of.
use Rattle.std.specs.Prelude.{ℕ, Option, Some, None}
use Rattle.rule_model.specs.declared.actions.Slot.{Slot}
use Rattle.rule_model.specs.declared.actions.Slot.TheVariants.{Sc0, Sc1, Sc2}
use Rattle.rule_eval.specs.declared.slots.Slots.{Slots}

-- the table of a slot
abbrev pub slot_of : Slots → Slot → Option ℕ
slot_of slots Sc0 = slots.sc0
slot_of slots Sc1 = slots.sc1
slot_of slots Sc2 = slots.sc2

-- the slots where one more tracks
abbrev pub with_slot : Slots → Slot → ℕ → Slots
with_slot slots Sc0 table = record slots { sc0 = Some table }
with_slot slots Sc1 table = record slots { sc1 = Some table }
with_slot slots Sc2 table = record slots { sc2 = Some table }

-- slots that track nothing
abbrev pub no_slots : Slots
no_slots = record { sc0 = None; sc1 = None; sc2 = None }
