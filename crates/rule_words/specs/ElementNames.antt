-- The elements of arrays that rules name: i,n.
use Rattle.std.specs.Prelude.{ℕ, ◌==◌, nat_le, Option, Some, None, option_map, option_and_then, List, [], ◌∷◌, if◌then◌else◌}
use Rattle.base_lines.specs.Number.{number_of}
use Rattle.base_lines.specs.Parts.{parts, is_byte}
use Rattle.rule_model.specs.declared.actions.Slot.{Slot}
use Rattle.rule_model.specs.declared.actions.Slot.TheVariants.{Sc0, Sc1, Sc2}
use Rattle.rule_words.specs.declared.elements.SlotElement.{SlotElement}

-- an index that an array can have
abbrev pub in_array : ℕ → Option ℕ
in_array i = if nat_le i 99 then Some i else None

-- the slot of a number
abbrev pub numbered_slot : ℕ → Option Slot
numbered_slot n = if n == 0 then Some Sc0 else (if n == 1 then Some Sc1 else (if n == 2 then Some Sc2 else None))

abbrev pub with_slot : ℕ → Slot → SlotElement
with_slot index slot = record { index = index; slot = slot }

-- by the parts of a text at its commas
abbrev pub element_of_parts : List (List ℕ) → Option SlotElement
element_of_parts (index ∷ slot ∷ []) =
    option_and_then (λ i. option_map (with_slot i) (option_and_then numbered_slot (number_of slot))) (option_and_then in_array (number_of index))
element_of_parts _ = None

-- i,n: the index of an element, 0 to 99, and the number of a slot
unfoldable pub element_of : List ℕ → Option SlotElement
element_of text = element_of_parts (parts (is_byte 44) text)
