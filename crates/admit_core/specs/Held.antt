-- The references of three slots.
use Rattle.std.specs.Prelude.{ℕ, Bool, true, not, Option, Some, None, is_some, List, [], ◌∷◌, filter}
use Rattle.rule_model.specs.declared.actions.Slot.{Slot}
use Rattle.rule_model.specs.declared.actions.Slot.TheVariants.{Sc0, Sc1, Sc2}
use Rattle.rule_eval.specs.declared.slots.Slots.{Slots}
use Rattle.admit_core.specs.declared.held.Held.{Held}

-- what a slot holds: the number of a table, and a reference to an entry of it
abbrev pub held_at : {R : Type 0} → Held R → Slot → Option (ℕ × R)
held_at held Sc0 = held.sc0
held_at held Sc1 = held.sc1
held_at held Sc2 = held.sc2

abbrev pub held_with : {R : Type 0} → Held R → Slot → Option (ℕ × R) → Held R
held_with held Sc0 entry = record held { sc0 = entry }
held_with held Sc1 entry = record held { sc1 = entry }
held_with held Sc2 entry = record held { sc2 = entry }

abbrev pub nothing_held : {R : Type 0} → Held R
nothing_held = record { sc0 = None; sc1 = None; sc2 = None }

-- those of some slots that hold a reference
abbrev pub holding_of : {R : Type 0} → Held R → List Slot → List Slot
holding_of held slots = filter (λ slot. is_some (held_at held slot)) slots

-- the slots that hold a reference, sc0 first
abbrev pub holding : {R : Type 0} → Held R → List Slot
holding held = holding_of held (Sc0 ∷ Sc1 ∷ Sc2 ∷ [])

-- the table of what each slot holds
abbrev pub table_of : {R : Type 0} → Option (ℕ × R) → Option ℕ
table_of None = None
table_of (Some entry) = Some entry.0

unfoldable pub tables_of : {R : Type 0} → Held R → Slots
tables_of held = record { sc0 = table_of held.sc0; sc1 = table_of held.sc1; sc2 = table_of held.sc2 }

-- a reference that was handed out isn't held
abbrev pub is_free_for : {R : Type 0} → Held R → Option (Slot × ℕ) → Bool
is_free_for held None = true
is_free_for held (Some out) = not (is_some (held_at held out.0))
